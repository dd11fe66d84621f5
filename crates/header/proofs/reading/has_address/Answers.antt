-- `has_address` meets its contract: the second bit of the flags. Assumes nothing.
use mathlib.Core.Path.{ap}
use Prim.Native.Nat.{ℕ, ◌%◌}
use lib.Dec.{leb}
use Rattle.header_rules.specs.Header.{fec_bit, addr_bit}
use Rattle.header_rules.specs.Read.{flags_at, has_address}
use Rattle.header.proofs.reading.has_address.Goals as goal

pub returns : goal.returns
unfolding has_address flags_at
returns c = ap (λ (x : ℕ). leb addr_bit (x % fec_bit)) c.read2.ensures
