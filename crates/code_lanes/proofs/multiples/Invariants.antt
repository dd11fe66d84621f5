-- `multiples` meets its contract: each element is twice that of the row before. Assumes nothing.
use Rattle.code_rules.proofs.LaneLaws.{Doubled}
use Rattle.code_lanes.proofs.multiples.Given as goal

abbrev pub invariant-loop-i : goal.invariant-loop-i
invariant-loop-i l = Doubled l.initial.k l.i l.k
