-- `offset_of` meets its contract. Assumes nothing.
use mathlib.Core.Path.{◌∙◌}
use Rattle.places_rules.proofs.Records.{offset_last, offset_other}
use Rattle.places.proofs.record.offset_of.Goals as goal

pub returns-then-is_last : goal.returns-then-is_last
returns-then-is_last c = c.saturating_sub.ensures ∙ offset_last _ c.is_last.ensures c.if-is_last.true

pub returns-else-is_last : goal.returns-else-is_last
returns-else-is_last c = offset_other _ c.is_last.ensures c.if-is_last.false
