use mathlib.Core.Path.{◌≡◌, sym, ◌∙◌}
use Prim.Native.Nat.{◌+◌, ◌-◌, ◌≤◌}
use native.Mathlib.Omega.{arith}
use borrow.Author.Rules.{rules}
use lib.ListN.{length, get_or, replicate}
use Rattle.code_rules.specs.inner.Kernel.{back}
use Rattle.code_rules.proofs.LoopLaws.{upto_start, upto_more}
use Rattle.code_rules.proofs.RegisterLaws.{back_at, length_back}
use Rattle.code_rules.proofs.RowLaws.{upto_rest, past_end, zeros_at}
use Rattle.code_encoder.proofs.rows.shifted.Goals as goal

pub loop-j-init : goal.loop-j-init
loop-j-init c = upto_start _ _

pub loop-j-preserved : goal.loop-j-preserved
loop-j-preserved c =
    let L = c.loop-j in
    let A = c.args in
    upto_more (back A.by A.p) (replicate 48 0) L.j L.q (get_or A.p (L.j + A.by) 0) L.invariant (omega arith) (sym (back_at A.by A.p L.j))

pub returns : goal.returns
returns c =
    let L = c.loop-j in
    let A = c.args in
    let p = A.p in
    let e : length p ≡ 48 = search rules in
    let h : 48 - A.by ≤ L.j = omega arith in
    upto_rest (back A.by p) (replicate 48 0) L.j L.q L.invariant (length_back A.by p ∙ e)
    (λ i l m. zeros_at 48 i ∙ sym (back_at A.by p i ∙ past_end p (i + A.by) (omega arith)))
