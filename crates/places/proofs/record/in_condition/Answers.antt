-- `in_condition` meets its contract. Assumes nothing.
use mathlib.Core.Path.{refl}
use Rattle.places_rules.specs.Places.{in_condition}
use Rattle.places.proofs.record.in_condition.Goals as goal

pub returns : goal.returns
unfolding in_condition
returns c = refl
