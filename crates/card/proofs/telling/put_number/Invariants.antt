-- `put_number` meets its contract: the bytes of what is left of the number, in front of those that stand already, are those of the number.
-- Assumes nothing.
use mathlib.Core.Path.{◌≡◌}
use Prim.Native.Nat.{◌-◌}
use lib.ListN.{length}
use Rattle.base_rules.specs.Bytes.{splice, bytes_of}
use Rattle.card.proofs.telling.put_number.Given as goal

abbrev pub invariant-loop-i : goal.invariant-loop-i
invariant-loop-i l = (length l.d ≡ length l.initial.d) × (splice l.d l.from (bytes_of (l.i - l.from) l.rest) ≡ splice l.initial.d l.from (bytes_of (l.to - l.from) l.x))
