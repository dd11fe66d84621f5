-- `occurrence::nth_in` meets its contract: after so many turns the occurrence looked for is the one with the number left, from `at` on.
use Prim.Native.Nat.{◌-◌}
use mathlib.Core.Path.{◌≡◌}
use lib.ListN.{length}
use Rattle.item_rules.specs.Run.{run_of, nth_of}
use Rattle.tag_rules.specs.Find.{whole_run}
use Rattle.occurrence.proofs.nth_in.Given as goal

abbrev pub invariant-loop : goal.invariant-loop
invariant-loop l = nth_of l.name l.number (whole_run l.packet) ≡ nth_of l.name (l.number - l.counter) (run_of l.packet l.at (length l.packet))
