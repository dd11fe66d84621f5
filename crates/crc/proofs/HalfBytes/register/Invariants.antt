-- `by_eights` is `register_of`. The loop keeps what the bytes that are left make of the register. Assumes nothing.
use mathlib.Core.Path.{◌≡◌}
use Prim.Native.Nat.{◌*◌}
use lib.ListN.{drop}
use Rattle.crc_rules.specs.Crc.{register_of}
use Rattle.crc.proofs.HalfBytes.register.Given as goal

abbrev pub invariant-loop-p : goal.invariant-loop-p
invariant-loop-p l = register_of l.r (drop (l.p-index * 8) l.fn.bytes) ≡ register_of l.fn.start l.fn.bytes
