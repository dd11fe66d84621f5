-- `powers` meets its contract: the table is right at every entry. Assumes nothing.
use mathlib.Core.Path.{refl}
use Rattle.field_rules.specs.Field.{◌⊕◌, times2}
use Rattle.field_rules.proofs.Powers as field
use Rattle.field_rules.proofs.Rules.{exps}
use Rattle.field.proofs.powers.Goals as goal

pub returns : goal.returns
unfolding field.powers times2 ◌⊕◌
returns c = exps _ refl
