use mathlib.Core.Path.{◌≡◌, sym, ap, ◌∙◌}
use native.Mathlib.Omega.{arith}
use borrow.Author.Rules.{rules}
use lib.ListN.{length, get_or}
use Rattle.field_rules.specs.Field.{◌⊕◌, ◌⊗◌}
use Rattle.codeword.specs.Code.{plus}
use Rattle.codeword.proofs.Poly.{length-plus, plus_at}
use Rattle.code_rules.proofs.LoopLaws.{upto_start, upto_more, upto_end}
use Rattle.code_lanes.proofs.added.Goals as goal

pub loop-m-init : goal.loop-m-init
loop-m-init c = upto_start _ _

pub loop-m-preserved : goal.loop-m-preserved
loop-m-preserved c =
    let A = c.args in
    let L = c.loop-m in
    let long : length A.q ≡ 48 = search rules in
    let same : length A.b ≡ length A.q = search rules in
    let y : c.product.result ≡ A.x ⊗ get_or A.b L.m 0 = c.product.ensures in
    let v = c.sum.ensures ∙ ap (λ y. get_or A.q L.m 0 ⊕ y) y ∙ sym (plus_at A.x A.b A.q L.m same) in
    upto_more (plus A.x A.b A.q) A.q L.m L.n c.sum.result L.invariant (omega arith) v

pub returns : goal.returns
returns c =
    let A = c.args in
    let L = c.loop-m in
    let long : length A.q ≡ 48 = search rules in
    let same : length A.b ≡ length A.q = search rules in
    upto_end _ A.q L.m L.n L.invariant (omega arith) (length-plus A.x A.b A.q same)
