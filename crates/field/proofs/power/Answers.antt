-- `power` meets its contract: an exponent goes by its rest at 255. Assumes nothing.
use mathlib.Core.Path.{◌∙◌}
use Rattle.field_rules.proofs.Powers.{alpha-mod}
use Rattle.field.proofs.power.Goals as goal

pub returns : goal.returns
returns c = c.raised.ensures ∙ alpha-mod _
