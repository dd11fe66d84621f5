use mathlib.Core.Path.{◌≡◌, sym, ap, ◌∙◌}
use Prim.Native.Nat.{◌+◌}
use native.Mathlib.Omega.{arith}
use borrow.Author.Rules.{rules}
use lib.ListN.{length, get_or}
use Rattle.field_rules.specs.Field.{◌⊕◌}
use Rattle.code_rules.specs.inner.Patterns.{root_step}
use Rattle.code_rules.proofs.LoopLaws.{upto_more, upto_end}
use Rattle.code_rules.proofs.PatternLaws.{root_step_at, length-root_step, root_step_start}
use Rattle.code_solver.proofs.patterns.times_root.Goals as goal

pub loop-m-init : goal.loop-m-init
loop-m-init c = root_step_start c.args.p c.args.x

pub loop-m-preserved : goal.loop-m-preserved
loop-m-preserved c =
    let A = c.args in
    let L = c.loop-m in
    let long : length A.p ≡ 49 = search rules in
    let e = c.sum.ensures ∙ ap (λ y. get_or A.p (L.m + 1) 0 ⊕ y) c.product.ensures ∙ sym (root_step_at A.p A.x L.m (omega arith)) in
    upto_more (root_step A.p A.x) A.p (L.m + 1) L.n c.sum.result L.invariant (omega arith) e

pub returns : goal.returns
returns c =
    let A = c.args in
    let L = c.loop-m in
    let long : length A.p ≡ 49 = search rules in
    upto_end (root_step A.p A.x) A.p (L.m + 1) L.n L.invariant (omega arith) (length-root_step A.p A.x ∙ sym long)
