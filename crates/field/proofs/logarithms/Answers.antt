-- `logarithms` meets its contract: the table is right at every entry. Assumes nothing.
use mathlib.Core.Path.{refl}
use Rattle.field_rules.specs.Field.{◌⊕◌, times2}
use Rattle.field_rules.proofs.Powers.{powers}
use Rattle.field_rules.proofs.Rules.{numbered, logs}
use Rattle.field.proofs.logarithms.Goals as goal

pub returns : goal.returns
unfolding numbered powers times2 ◌⊕◌
returns c = logs _ refl
