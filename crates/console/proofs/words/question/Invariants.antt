-- `question` counts at most a blank a letter. Assumes nothing.
use Prim.Native.Nat.{◌≤◌}
use Rattle.console.proofs.words.question.Given as goal

abbrev pub invariant-loop-letter : goal.invariant-loop-letter
invariant-loop-letter l = l.follow ≤ l.letter-index
