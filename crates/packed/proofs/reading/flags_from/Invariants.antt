-- `flags_from` meets its contract: after j turns the first j flags stand in the array. Assumes nothing.
use mathlib.Core.Path.{◌≡◌}
use mathlib.Core.List.{map}
use lib.ListN.{length, take}
use Rattle.base_rules.specs.Bounds.{most_f}
use Rattle.packed_rules.specs.Packed.{is_set, flag_bytes}
use Rattle.packed.proofs.reading.flags_from.Given as goal

abbrev pub invariant-loop-j : goal.invariant-loop-j
invariant-loop-j l = (length l.kept ≡ most_f) × (take l.j l.kept ≡ map is_set (take l.j (flag_bytes l.s l.i)))
