use mathlib.Core.Path.{◌≡◌, refl, ◌∙◌}
use mathlib.Core.Bool.{Bool, true, false}
use Prim.Native.Nat.{◌+◌, ◌≤◌}
use native.Mathlib.Omega.{arith}
use mir.Val.{bool_byte}
use lib.ListN.{length-set, replicate}
use Rattle.base_rules.specs.Bounds.{most_f}
use Rattle.base_rules.specs.Tests.{bit}
use Rattle.weave_rules.specs.Calls.{not_kept}
use Rattle.cut_rules.specs.Missing.{count}
use Rattle.weave_rules.proofs.PrefixSums.{one_more, sums_more, sums_none}
use Rattle.weave.proofs.tally.sums_of.Goals as goal

pub loop-i-init : goal.loop-i-init
unfolding count
loop-i-init c = (refl, omega arith, refl, sums_none (not_kept c.args.kept) (replicate (most_f + 1) 0) refl)

-- 1 for a fragment that is not kept
one_lost : (b : Bool) → (bool_byte b ≡ bit b) × (bool_byte b ≤ 1)
one_lost true = (refl, omega arith)
one_lost false = (refl, omega arith)

pub loop-i-preserved : goal.loop-i-preserved
loop-i-preserved c =
    let d = c.loop-i in
    let p = not_kept c.args.kept in
    let one = one_lost (p d.i) in
    let e : d.w + c.from-w.result ≡ count p 0 (d.i + 1) = omega (arith, one.0, one_more p d.i) in
    (e, omega (arith, one.1), length-set d.sums (d.i + 1) (d.w + c.from-w.result) ∙ d.invariant.2, sums_more p d.sums d.i (d.w + c.from-w.result) d.invariant.3 (omega arith) e)
