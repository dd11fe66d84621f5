-- `missing_in` meets its contract: after so many turns those of the fragments so far that are not kept are counted. Assumes nothing.
use mathlib.Core.Path.{◌≡◌}
use Prim.Native.Nat.{◌≤◌}
use Rattle.cut_rules.specs.Missing.{count}
use Rattle.weave_rules.specs.Calls.{not_kept}
use Rattle.form.proofs.calls.missing_in.Given as goal

abbrev pub invariant-loop-k : goal.invariant-loop-k
invariant-loop-k l = (l.missing ≤ l.k-index) × (l.missing ≡ count (not_kept l.fn.p.kept) 0 l.k-index)
