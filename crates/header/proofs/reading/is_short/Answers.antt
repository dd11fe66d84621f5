-- `is_short` meets its contract. Assumes nothing.
use mathlib.Core.Path.{◌∙◌}
use borrow.Author.Tests.{lt-ltb}
use Rattle.header_rules.proofs.Fields.{short_least, short_rest}
use Rattle.header.proofs.reading.is_short.Goals as goal

pub returns-then-s-lt-LEAST_H : goal.returns-then-s-lt-LEAST_H
returns-then-s-lt-LEAST_H c = lt-ltb _ _ c.if-s-lt-LEAST_H.true ∙ short_least _ c.if-s-lt-LEAST_H.true

pub returns-else-s-lt-LEAST_H : goal.returns-else-s-lt-LEAST_H
returns-else-s-lt-LEAST_H c = short_rest _ _ c.body_length.ensures.0 c.if-s-lt-LEAST_H.false
