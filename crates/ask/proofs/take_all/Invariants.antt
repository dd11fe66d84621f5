-- At each turn the bytes held fit the line, which keeps its length.
use Rattle.std.proofs.Common.{length, ◌≤◌}
use Rattle.ask.proofs.take_all.Given as goal

abbrev pub invariant-loop-byte : goal.invariant-loop-byte
invariant-loop-byte g l = l.n ≤ length l.line
