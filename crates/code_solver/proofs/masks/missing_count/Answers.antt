use Prim.Native.Nat.{◌<◌}
use native.Mathlib.Omega.{arith}
use lib.ListN.{length}
use Rattle.code_rules.proofs.MaskLaws.{count_marked, count_unmarked, count_end}
use Rattle.code_solver.proofs.masks.missing_count.Goals as goal
use Rattle.code_solver.proofs.masks.missing_count.Goals.{then-m-ne0, else-m-ne0}

pub loop-m-init : goal.loop-m-init
loop-m-init c = (omega arith, omega arith)

pub loop-m-preserved : goal.loop-m-preserved
loop-m-preserved c =
    let mask = c.args.mask.now in
    let L = c.loop-m in
    let I = L.invariant in
    let h : L.m-index < length mask = omega arith in
    let one = count_marked mask L.m-index h in
    let none = count_unmarked mask L.m-index h in
    elim c.if-m-ne0.branch [
      | then-m-ne0 w ↦ (omega (arith, w.n-is), omega (arith, w.n-is, one w.if-m-ne0.true, I.1))
      | else-m-ne0 w ↦ (omega (arith, w.n-is), omega (arith, w.n-is, none w.if-m-ne0.false, I.1))
    ]

pub returns : goal.returns
returns c =
    let L = c.loop-m in
    omega (arith, count_end c.args.mask.now L.m-index (omega arith), L.invariant.1)
