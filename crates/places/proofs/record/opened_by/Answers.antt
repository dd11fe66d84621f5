-- `opened_by` meets its contract. Assumes nothing.
use mathlib.Core.Path.{refl}
use Rattle.places_rules.specs.Places.{opened_by}
use Rattle.places.proofs.record.opened_by.Goals as goal

pub returns : goal.returns
unfolding opened_by
returns c = refl
