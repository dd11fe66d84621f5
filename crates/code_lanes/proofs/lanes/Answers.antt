use mathlib.Core.Path.{sym, ap, ◌∙◌}
use Prim.Native.Nat.{◌<◌}
use native.Mathlib.Omega.{arith}
use lib.ListN.{get_or, replicate}
use Rattle.field_rules.specs.Field.{◌⊕◌}
use Rattle.code_rules.specs.inner.Kernel.{lane_by}
use Rattle.code_rules.proofs.LoopLaws.{upto_start, upto_more, upto_end}
use Rattle.code_rules.proofs.LaneLaws.{lane_by_at, length-lane_by}
use Rattle.code_lanes.proofs.lanes.Goals as goal

pub loop-m-init : goal.loop-m-init
loop-m-init c = upto_start _ _

pub loop-m-preserved : goal.loop-m-preserved
loop-m-preserved c =
    let A = c.args in
    let L = c.loop-m in
    let h : L.m < 48 = omega arith in
    let e = c.sum.ensures ∙ ap (λ y. y ⊕ get_or A.r L.m 0) c.dot-p.ensures ∙ sym (lane_by_at A.k.now A.s A.r L.m h) in
    upto_more (lane_by A.k.now A.s A.r) (replicate 48 0) L.m L.q c.sum.result L.invariant h e

pub returns : goal.returns
returns c =
    let A = c.args in
    let L = c.loop-m in
    upto_end _ (replicate 48 0) L.m L.q L.invariant (omega arith) (length-lane_by A.k.now A.s A.r)
