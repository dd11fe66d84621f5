use mathlib.Core.Path.{◌≡◌, sym, ◌∙◌}
use native.Mathlib.Omega.{arith}
use borrow.Author.Rules.{rules}
use lib.ListN.{length, drop, get_or}
use lib.Seq.{get_or-drop}
use Rattle.code_rules.specs.inner.Kernel.{sum_of}
use Rattle.code_rules.proofs.LoopLaws.{upto_start, upto_more, upto_end}
use Rattle.code_rules.proofs.LaneLaws.{sum_of_at, length-sum_of, drop-size}
use Rattle.code_encoder.proofs.register.summed.Goals as goal

pub loop-j-init : goal.loop-j-init
loop-j-init c = upto_start _ _

pub loop-j-preserved : goal.loop-j-preserved
loop-j-preserved c =
    let L = c.loop-j in
    let A = c.args in
    let p = A.p in
    let w = drop A.k A.c.now in
    let long : length p ≡ 48 = search rules in
    let e : length p ≡ length w = long ∙ sym (drop-size A.k A.c.now c.requires.0 c.requires.1) in
    let same : c.sum.result ≡ get_or (sum_of p w) L.j 0 = cc (sum_of_at p w L.j e, get_or-drop A.k A.c.now L.j 0) in
    upto_more (sum_of p w) p L.j L.q c.sum.result L.invariant (omega arith) same

pub returns : goal.returns
returns c =
    let L = c.loop-j in
    let A = c.args in
    let p = A.p in
    let w = drop A.k A.c.now in
    let long : length p ≡ 48 = search rules in
    let e : length p ≡ length w = long ∙ sym (drop-size A.k A.c.now c.requires.0 c.requires.1) in
    upto_end (sum_of p w) p L.j L.q L.invariant (omega arith) (length-sum_of p w e)
