-- `ar_of` meets its contract: a byte is a number of one byte. Assumes nothing.
use Rattle.base_rules.proofs.Numbers.{number_one}
use Rattle.af.proofs.checking.ar_of.Goals as goal

pub returns : goal.returns
returns c = number_one _ 8 c.byte_at.ensures
