-- `put_fragments` meets its contract: after each turn the fragments so far stand at the front. Assumes nothing.
use mathlib.Core.Path.{◌≡◌}
use Prim.Native.Nat.{◌*◌}
use Rattle.base_rules.specs.Bytes.{splice}
use Rattle.sender_rules.specs.Fragments.{fragments_from}
use Rattle.sender.proofs.parts.Sending.put_fragments.Given as goal

abbrev pub invariant-loop-i : goal.invariant-loop-i
invariant-loop-i l = (l.at ≡ l.i * l.step) × (l.out ≡ splice l.initial.out 0 (fragments_from l.self.g l.self.number l.self.packet.now 0 l.i))
