-- `write_none` meets its contract: an item of no bits and no value, as it is written. Assumes nothing.
use mathlib.Core.Path.{refl}
use Rattle.bandwidth_rules.proofs.Writing.{none_written}
use Rattle.bandwidth.proofs.write_none.Goals as goal

pub returns : goal.returns
returns c = none_written _ _ _ refl c.write.ensures
