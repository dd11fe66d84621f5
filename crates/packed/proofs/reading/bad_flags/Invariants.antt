-- `bad_flags` meets its contract: after so many turns the bits are no flag where one of the bytes so far is none. Assumes nothing.
use mathlib.Core.Path.{◌≡◌}
use lib.ListN.{take}
use Rattle.packed_rules.specs.Packed.{bad_flag, bad_flags}
use Rattle.packed.proofs.reading.bad_flags.Given as goal

abbrev pub invariant-loop-b : goal.invariant-loop-b
invariant-loop-b l = bad_flag l.bits ≡ bad_flags (take l.b-index l.b-items)
