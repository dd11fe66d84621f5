-- `flags` meets its contract: after i turns the first i bytes stand in the array. Assumes nothing.
use mathlib.Core.Path.{◌≡◌}
use mathlib.Core.List.{map}
use lib.ListN.{length, take}
use Rattle.base_rules.specs.Bounds.{most_f}
use Rattle.base_rules.specs.Tests.{bit}
use Rattle.packed.proofs.writing.flags.Given as goal

abbrev pub invariant-loop-i : goal.invariant-loop-i
invariant-loop-i l = (length l.bytes ≡ most_f) × (take l.i l.bytes ≡ map bit (take l.i l.k-items))
