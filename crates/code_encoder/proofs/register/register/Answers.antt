use mathlib.Core.Path.{◌≡◌, ap, ◌∙◌}
use Prim.Native.Nat.{◌*◌}
use native.Mathlib.Omega.{arith}
use Rattle.code_rules.specs.inner.Register.{eight_by, register_by}
use Rattle.code_rules.proofs.TableLaws.{steps_start, steps_more}
use Rattle.code_encoder.proofs.register.register.Goals as goal

pub loop-i-init : goal.loop-i-init
loop-i-init c = steps_start c.args.t.now c.args.d.now

pub loop-i-preserved : goal.loop-i-preserved
loop-i-preserved c =
    let L = c.loop-i in
    let A = c.args in
    let same = ap (λ p. eight_by A.t.now p A.d.now (L.i * 8)) L.invariant in
    c.eight-next.ensures ∙ same ∙ steps_more A.t.now A.d.now L.i

pub returns : goal.returns
returns c =
    let L = c.loop-i in
    let A = c.args in
    let h : L.i ≡ 26 = omega arith in
    L.invariant ∙ ap (register_by A.t.now A.d.now) h
