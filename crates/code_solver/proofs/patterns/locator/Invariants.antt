-- `locator` meets its contract: a root a turn. Assumes nothing.
use mathlib.Core.Path.{◌≡◌}
use lib.ListN.{length, take}
use Rattle.code_rules.specs.inner.Patterns.{locator_of, Same}
use Rattle.code_solver.proofs.patterns.locator.Given as goal

abbrev pub invariant-loop-i : goal.invariant-loop-i
invariant-loop-i l = (length l.p ≡ 49) × Same l.p (locator_of (take l.i l.x))
