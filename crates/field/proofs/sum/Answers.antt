-- `sum` meets its contract: it is the exclusive or. Assumes nothing.
use mathlib.Core.Path.{refl}
use Rattle.field_rules.specs.Field.{◌⊕◌}
use Rattle.field.proofs.sum.Goals as goal

pub returns : goal.returns
unfolding ◌⊕◌
returns c = refl
