-- `by_bytes` is `register_of`. The loop keeps what the bytes that are left make of the register. Assumes nothing.
use mathlib.Core.Path.{◌≡◌}
use lib.ListN.{drop}
use Rattle.crc_rules.specs.Crc.{register_of}
use Rattle.crc.proofs.by_bytes.Given as goal

abbrev pub invariant-loop-b : goal.invariant-loop-b
invariant-loop-b l = register_of l.r (drop l.b-index l.bytes) ≡ register_of l.start l.bytes
