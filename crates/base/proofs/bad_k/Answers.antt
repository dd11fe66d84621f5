-- `bad_k` meets its contract. Assumes nothing.
use borrow.Author.Tests.{eq-eqb, ne_eqb}
use Rattle.base_rules.specs.Bounds.{bad_k}
use Rattle.base.proofs.bad_k.Goals as goal

pub returns-then-k-eq0 : goal.returns-then-k-eq0
unfolding bad_k
returns-then-k-eq0 c = rw (eq-eqb c.args.k 0 c.if-k-eq0.true)

pub returns-else-k-eq0 : goal.returns-else-k-eq0
unfolding bad_k
returns-else-k-eq0 c = rw (ne_eqb c.args.k 0 c.if-k-eq0.false)
