-- `bad_count` meets its contract. Assumes nothing.
use borrow.Author.Tests.{eq-eqb, ne_eqb}
use Rattle.weave_rules.specs.Calls.{bad_count}
use Rattle.header.proofs.reading.bad_count.Goals as goal

pub returns-then-count-eq0 : goal.returns-then-count-eq0
unfolding bad_count
returns-then-count-eq0 c = rw (eq-eqb c.args.count 0 c.if-count-eq0.true)

pub returns-else-count-eq0 : goal.returns-else-count-eq0
unfolding bad_count
returns-else-count-eq0 c = rw (ne_eqb c.args.count 0 c.if-count-eq0.false)
