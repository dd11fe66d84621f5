-- `with_width` meets its contract: the flag tells whether there is something to compare with. Assumes nothing.
use Rattle.std.proofs.Common.{sym}
use Rattle.bandwidth_rules.specs.Seen.{with_width}
use Rattle.widths.proofs.with_width.Goals as goal

pub returns-then-widths : goal.returns-then-widths
unfolding with_width
returns-then-widths c = sym (simp (c.if-widths.true, c.wider_of.ensures, c.narrower_of.ensures))

pub returns-else-widths : goal.returns-else-widths
unfolding with_width
returns-else-widths c = sym (simp c.if-widths.false)
