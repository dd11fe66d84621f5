-- `walk::steps::step_from` meets its contract. The invariant: the step from where it began is the step from `at` at depth d.
use Prim.Native.Nat.{◌≤◌}
use mathlib.Core.Path.{◌≡◌}
use Rattle.walk_rules.specs.Names.{deepest, names_of}
use Rattle.walk_rules.specs.Step.{step_from}
use Rattle.walk.proofs.steps.step_from.Given as goal

abbrev pub invariant-loop-i : goal.invariant-loop-i
invariant-loop-i l = (l.d ≤ deepest) × (step_from l.s (names_of l.names) l.initial.at l.initial.d l.ends ≡ step_from l.s (names_of l.names) l.at l.d l.ends)

abbrev pub decreases-loop-i : goal.decreases-loop-i
decreases-loop-i l = l.d
