-- `eight` is `register_of`. The loop keeps the sum of what is added at the end and what the bytes that are left make of the register.
-- Assumes nothing.
use mathlib.Core.Path.{◌≡◌}
use lib.Bits.{bit_xor}
use lib.ListN.{drop}
use Rattle.crc_rules.specs.Crc.{register_of}
use Rattle.crc.proofs.HalfBytes.eight.Given as goal

abbrev pub invariant-loop-b : goal.invariant-loop-b
invariant-loop-b l = bit_xor l.sum (register_of l.r (drop l.b l.p)) ≡ register_of l.start l.p
