use Prim.Native.Nat.{◌<◌}
use native.Mathlib.Omega.{arith}
use lib.ListN.{length}
use Rattle.code_rules.proofs.MaskLaws.{filled_skip, filled_more, filled_end}
use Rattle.code_solver.proofs.masks.fill_in.Goals as goal
use Rattle.code_solver.proofs.masks.fill_in.Goals.{then-mask-i-ne0, else-mask-i-ne0}

pub loop-i-preserved : goal.loop-i-preserved
loop-i-preserved c =
    let A = c.args in
    let L = c.loop-i in
    let I = L.invariant in
    let hm : L.i < length A.mask.now = omega arith in
    let hw : L.i < length A.word.now = omega arith in
    let skip = filled_skip A.mask.now A.vs.now A.word.now L.i L.k L.word hm hw I.1 in
    let more = filled_more A.mask.now A.vs.now A.word.now L.i L.k L.word hm hw I.1 in
    elim c.if-mask-i-ne0.branch [
      | then-mask-i-ne0 w ↦ (omega (arith, w.k-is), rw (w.word-is, w.k-is) (more w.if-mask-i-ne0.true w.byte_at.result w.byte_at.ensures))
      | else-mask-i-ne0 w ↦ (omega (arith, w.k-is), rw (w.word-is, w.k-is) (skip w.if-mask-i-ne0.false))
    ]

pub returns : goal.returns
returns c =
    let A = c.args in
    let L = c.loop-i in
    filled_end A.mask.now A.vs.now A.word.now L.i L.k L.word (omega arith) L.invariant.1
