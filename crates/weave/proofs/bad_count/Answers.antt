-- `bad_count` meets its contract. Assumes nothing.
use borrow.Author.Tests.{eq-eqb, ne_eqb}
use Rattle.weave_rules.specs.Calls.{bad_count}
use Rattle.weave.proofs.bad_count.Goals as goal

pub returns-then-f-eq0 : goal.returns-then-f-eq0
unfolding bad_count
returns-then-f-eq0 c = rw (eq-eqb c.args.f 0 c.if-f-eq0.true)

pub returns-else-f-eq0 : goal.returns-else-f-eq0
unfolding bad_count
returns-else-f-eq0 c = rw (ne_eqb c.args.f 0 c.if-f-eq0.false)
