-- `item::first_in` meets its contract. The invariant: the search from `from` on is the search from `at` on. The measure is what is left.
use Prim.Native.Nat.{◌-◌}
use mathlib.Core.Path.{◌≡◌}
use Rattle.item_rules.specs.Run.{run_of, first_of}
use Rattle.item.proofs.first_in.Given as goal

abbrev pub invariant-loop-step : goal.invariant-loop-step
invariant-loop-step l = first_of l.name (run_of l.s l.from l.end) ≡ first_of l.name (run_of l.s l.at l.end)

abbrev pub decreases-loop-step : goal.decreases-loop-step
decreases-loop-step l = l.end - l.at
