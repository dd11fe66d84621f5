-- `times_root` meets its contract: a place a turn. Assumes nothing.
use Prim.Native.Nat.{◌+◌}
use Rattle.code_rules.specs.inner.Patterns.{root_step}
use Rattle.code_rules.proofs.LoopLaws.{Upto}
use Rattle.code_solver.proofs.patterns.times_root.Given as goal

abbrev pub invariant-loop-m : goal.invariant-loop-m
invariant-loop-m l = Upto (root_step l.p l.x) l.p (l.m + 1) l.n
