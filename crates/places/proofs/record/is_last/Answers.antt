-- `is_last` meets its contract. Assumes nothing.
use mathlib.Core.Path.{refl, ◌∙◌}
use borrow.Author.Tests.{not-true, not-false}
use Rattle.places_rules.proofs.Records.{fec-not-last, last_at_end}
use Rattle.places.proofs.record.is_last.Goals as goal

pub returns-then-not-h : goal.returns-then-not-h
returns-then-not-h c = last_at_end _ (not-true c.args.h.fec c.if-not-h.true) refl

pub returns-else-not-h : goal.returns-else-not-h
returns-else-not-h c = c.if-not-h.false ∙ fec-not-last _ (not-false c.args.h.fec c.if-not-h.false)
