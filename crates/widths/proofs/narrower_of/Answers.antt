-- `narrower_of` meets its contract: each branch is what the test says. Assumes nothing.
use Rattle.std.proofs.Common.{sym}
use Rattle.bandwidth_rules.specs.Seen.{narrower}
use Rattle.widths.proofs.narrower_of.Goals as goal

pub returns-then-x-a : goal.returns-then-x-a
unfolding narrower
returns-then-x-a c = sym (simp c.if-x-a.true)

pub returns-else-x-a : goal.returns-else-x-a
unfolding narrower
returns-else-x-a c = sym (simp c.if-x-a.false)
