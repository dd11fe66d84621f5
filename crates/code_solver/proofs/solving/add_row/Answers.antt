use mathlib.Core.Path.{sym, ap, ap₂, ◌∙◌}
use native.Mathlib.Omega.{arith}
use Rattle.field_rules.specs.Field.{◌⊕◌, ◌⊗◌}
use Rattle.codeword.specs.Code.{plus}
use Rattle.codeword.proofs.Poly.{length-plus, plus_at}
use Rattle.code_rules.specs.inner.Patterns.{row_of}
use Rattle.code_rules.proofs.LoopLaws.{upto_more, upto_end}
use Rattle.code_rules.proofs.PatternLaws.{row_of_at, length-row_of}
use Rattle.code_solver.proofs.solving.add_row.Goals as goal

pub loop-j-preserved : goal.loop-j-preserved
loop-j-preserved c =
    let A = c.args in
    let L = c.loop-j in
    let P = plus_at A.x (row_of A.q.now A.m) A.y.now L.j (length-row_of A.q.now A.m ∙ sym c.requires.1) in
    let U = L.invariant.left L.j (omega arith) in
    let R = c.product.ensures ∙ ap (λ z. A.x ⊗ z) (sym (row_of_at A.q.now A.m L.j (omega arith))) in
    upto_more (plus A.x (row_of A.q.now A.m) A.y.now) A.y.now L.j L.y c.sum.result L.invariant (omega arith) (c.sum.ensures ∙ ap₂ ◌⊕◌ U R ∙ sym P)

pub returns : goal.returns
returns c =
    let A = c.args in
    let L = c.loop-j in
    upto_end (plus A.x (row_of A.q.now A.m) A.y.now) A.y.now L.j L.y L.invariant (omega arith)
    (length-plus A.x (row_of A.q.now A.m) A.y.now (length-row_of A.q.now A.m ∙ sym c.requires.1))
