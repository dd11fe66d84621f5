-- `solve` meets its contract: a syndrome a turn. Assumes nothing.
use mathlib.Core.Path.{◌≡◌}
use Prim.Native.Nat.{◌-◌}
use lib.ListN.{drop}
use Rattle.code_rules.specs.inner.Words.{table}
use Rattle.code_rules.specs.inner.Patterns.{col_of, mix}
use Rattle.code_solver.proofs.solving.solve.Given as goal

abbrev pub invariant-loop-i : goal.invariant-loop-i
invariant-loop-i l = l.y ≡ table 48 (λ j. mix l.s (drop (l.n - l.i) (col_of l.q l.n j)))
