-- `sums_of` meets its contract: after i turns the sums up to i stand in the array. Assumes nothing.
use mathlib.Core.Path.{◌≡◌}
use Prim.Native.Nat.{◌+◌, ◌≤◌}
use lib.ListN.{length}
use Rattle.base_rules.specs.Bounds.{most_f}
use Rattle.weave_rules.specs.Calls.{not_kept}
use Rattle.cut_rules.specs.Missing.{count}
use Rattle.weave_rules.proofs.PrefixSums.{Sums}
use Rattle.weave.proofs.tally.sums_of.Given as goal

abbrev pub invariant-loop-i : goal.invariant-loop-i
invariant-loop-i l = (l.w ≡ count (not_kept l.kept) 0 l.i) × (l.w ≤ l.i) × (length l.sums ≡ most_f + 1) × Sums (not_kept l.kept) l.sums l.i
