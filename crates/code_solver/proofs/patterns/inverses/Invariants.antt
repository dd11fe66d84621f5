-- `inverses` meets its contract: a square a turn. Assumes nothing.
use mathlib.Core.Path.{◌≡◌}
use mathlib.Core.List.{List}
use Prim.Native.Nat.{ℕ}
use Rattle.code_rules.specs.inner.Patterns.{times_all}
use Rattle.code_rules.proofs.SolveLaws.{exp_s, exp_p, powers}
use Rattle.code_solver.proofs.patterns.inverses.Given as goal

abbrev pub invariant-loop : goal.invariant-loop
invariant-loop l = (x : List ℕ) → l.initial.s ≡ times_all x x → (l.s ≡ powers x (exp_s l.counter)) × (l.p ≡ powers x (exp_p l.counter))
