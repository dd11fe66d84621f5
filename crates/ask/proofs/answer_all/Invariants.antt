-- At each turn the bytes held fit the line.
use Rattle.std.proofs.Common.{length, ◌≤◌}
use Rattle.ask.proofs.answer_all.Given as goal

abbrev pub invariant-loop : goal.invariant-loop
invariant-loop g l = l.used ≤ length l.line
