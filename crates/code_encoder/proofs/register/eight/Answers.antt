use mathlib.Core.Path.{◌≡◌, ap₂, ◌∙◌}
use native.Mathlib.Omega.{arith}
use borrow.Author.Rules.{rules}
use lib.ListN.{length}
use Rattle.code_rules.specs.inner.Register.{byte_by}
use Rattle.code_rules.proofs.TableLaws.{length_last, last_start, last_more, last_end}
use Rattle.code_encoder.proofs.register.eight.Goals as goal

pub loop-n-init : goal.loop-n-init
loop-n-init c =
    let A = c.args in
    c.shifted-q.ensures ∙ last_start A.t.now A.p A.d.now A.at

pub byte_in-requires : goal.byte_in-requires
byte_in-requires c =
    let L = c.loop-n in
    let A = c.args in
    let long : length A.p ≡ 48 = search rules in
    (omega arith, length_last A.t.now A.p A.d.now A.at L.n L.q long L.invariant)

pub loop-n-preserved : goal.loop-n-preserved
loop-n-preserved c =
    let L = c.loop-n in
    let A = c.args in
    let same = ap₂ (λ x q. byte_by A.t.now L.n x q) c.sum.ensures L.invariant in
    c.byte_in.ensures ∙ same ∙ last_more A.t.now A.p A.d.now A.at L.n

pub returns : goal.returns
returns c =
    let L = c.loop-n in
    let A = c.args in
    L.invariant ∙ last_end A.t.now A.p A.d.now A.at L.n (omega arith)
