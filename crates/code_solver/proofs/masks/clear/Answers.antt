use mathlib.Core.Path.{◌≡◌}
use Prim.Native.Nat.{◌<◌}
use native.Mathlib.Omega.{arith}
use lib.ListN.{length, get_or}
use Rattle.codeword.specs.Erasure.{erase, marks}
use Rattle.code_rules.proofs.LoopLaws.{upto_more}
use Rattle.code_rules.proofs.MaskLaws.{erase_in, erased_end}
use Rattle.code_solver.proofs.masks.clear.Goals as goal

pub loop-i-preserved : goal.loop-i-preserved
loop-i-preserved c =
    let A = c.args in
    let L = c.loop-i in
    let h : L.i < length A.c.now = omega arith in
    let k : get_or L.c L.i 0 ≡ get_or A.c.now L.i 0 = L.invariant.left L.i (omega arith) in
    let E = erase_in A.mask.now A.c.now L.i h (omega arith) in
    upto_more (erase (marks A.mask.now) A.c.now) A.c.now L.i L.c c.kept.result L.invariant h (cc E)

pub returns : goal.returns
returns c =
    let A = c.args in
    let L = c.loop-i in
    erased_end A.mask.now A.c.now L.i L.c (omega arith) L.invariant
