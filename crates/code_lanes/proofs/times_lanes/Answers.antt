use mathlib.Core.Path.{sym, ◌∙◌}
use Prim.Native.Nat.{◌<◌}
use native.Mathlib.Omega.{arith}
use lib.ListN.{replicate}
use Rattle.code_rules.specs.inner.Patterns.{times_all}
use Rattle.code_rules.proofs.LoopLaws.{upto_start, upto_more, upto_end}
use Rattle.code_rules.proofs.SolveLaws.{times_all_at, length-times_all}
use Rattle.code_lanes.proofs.times_lanes.Goals as goal

pub loop-m-init : goal.loop-m-init
loop-m-init c = upto_start _ _

pub loop-m-preserved : goal.loop-m-preserved
loop-m-preserved c =
    let A = c.args in
    let L = c.loop-m in
    let h : L.m < 48 = omega arith in
    upto_more (times_all A.a A.b) (replicate 48 0) L.m L.r c.product.result L.invariant h (c.product.ensures ∙ sym (times_all_at A.a A.b L.m h))

pub returns : goal.returns
returns c =
    let A = c.args in
    let L = c.loop-m in
    upto_end (times_all A.a A.b) (replicate 48 0) L.m L.r L.invariant (omega arith) (length-times_all A.a A.b)
