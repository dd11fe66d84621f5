-- `bad_length` meets its contract. Assumes nothing.
use mathlib.Core.Path.{◌∙◌}
use borrow.Author.Tests.{eq-eqb}
use Rattle.header_rules.proofs.Fields.{length_none, length_rest}
use Rattle.header.proofs.reading.bad_length.Goals as goal

pub returns-then-h-eq0 : goal.returns-then-h-eq0
returns-then-h-eq0 c = eq-eqb _ _ c.if-h-eq0.true ∙ length_none _ c.args.h c.if-h-eq0.true

pub returns-else-h-eq0 : goal.returns-else-h-eq0
returns-else-h-eq0 c = length_rest _ _ c.body_length.ensures.0 c.args.h c.if-h-eq0.false
