-- `logarithm` meets its contract: the table is right at every entry. Assumes nothing.
use Rattle.field_rules.proofs.Answers.{logarithm_refused, logarithm_given}
use Rattle.field.proofs.logarithm.Goals as goal

pub returns-then-x-eq0 : goal.returns-then-x-eq0
returns-then-x-eq0 c = logarithm_refused _ c.if-x-eq0.true

pub returns : goal.returns
returns c = logarithm_given _ _ c.if-x-eq0.false c.entry.ensures
