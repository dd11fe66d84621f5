-- `tag::check` meets its contract. The invariant is `Seen`; the measure is what is left of the packet.
use Prim.Native.Nat.{◌-◌}
use lib.ListN.{length}
use Rattle.item_rules.specs.Run.{faults_of}
use Rattle.item_rules.proofs.Seen.{Seen}
use Rattle.tag.proofs.check.Given as goal

abbrev pub invariant-loop-step : goal.invariant-loop-step
invariant-loop-step l = Seen (faults_of l.repeats) l.packet 0 (length l.packet) l.marks l.at

abbrev pub decreases-loop-step : goal.decreases-loop-step
decreases-loop-step l = length l.packet - l.at
