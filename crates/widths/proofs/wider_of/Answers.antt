-- `wider_of` meets its contract: each branch is what the test says. Assumes nothing.
use Rattle.std.proofs.Common.{sym}
use Rattle.bandwidth_rules.specs.Seen.{wider}
use Rattle.widths.proofs.wider_of.Goals as goal

pub returns-then-a-x : goal.returns-then-a-x
unfolding wider
returns-then-a-x c = sym (simp c.if-a-x.true)

pub returns-else-a-x : goal.returns-else-a-x
unfolding wider
returns-else-a-x c = sym (simp c.if-a-x.false)
