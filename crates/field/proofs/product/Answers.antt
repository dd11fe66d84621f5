use mathlib.Core.Path.{◌≡◌, sym, ap, ap₂, ◌∙◌}
use Prim.Native.Nat.{ℕ, suc, ◌+◌, ◌-◌, ◌*◌, ◌/◌, ◌%◌, ◌<◌}
use native.Mathlib.Nat.{mod-eq_of_lt}
use native.Mathlib.Omega.{arith}
use borrow.Author.Rules.{rules}
use Rattle.field_rules.specs.Field.{◌⊕◌, times2, mul_bits, ◌⊗◌}
use Rattle.field_rules.proofs.Sums.{add_0_l}
use Rattle.field_rules.proofs.Shifts.{turn, none_left}
use Rattle.field.proofs.product.Goals as goal

pub loop-init : goal.loop-init
loop-init c = (omega arith, add_0_l (mul_bits 8 c.args.a c.args.b))

pub loop-preserved : goal.loop-preserved
loop-preserved c =
    let k = c.loop in
    let i : ℕ = k.counter in
    let h : i < 8 = search rules in
    let rest : ℕ = 8 - (i + 1) in
    let left : suc rest ≡ 8 - i = omega arith in
    let summed : c.with_bit-r.result ≡ k.r ⊕ k.y % 2 * k.x = c.with_bit-r.ensures in
    let moved : c.twice-x.result ≡ times2 k.x = c.twice-x.ensures in
    let kept =
    ap₂ (λ r x. r ⊕ mul_bits rest x (k.y / 2)) summed moved ∙ turn rest k.r k.x k.y
    ∙ ap (λ n. k.r ⊕ mul_bits n k.x k.y) left ∙ k.invariant.1 in
    (omega arith, kept)

pub returns : goal.returns
unfolding ◌⊗◌
returns c =
    let k = c.loop in
    let a : ℕ = c.args.a in
    let b : ℕ = c.args.b in
    let small : a < 256 = search rules in
    let over : 8 - k.counter ≡ 0 = omega (arith, c.loop-test.false) in
    sym (none_left k.r k.x k.y) ∙ ap (λ n. k.r ⊕ mul_bits n k.x k.y) (sym over) ∙ k.invariant.1
    ∙ ap (λ x. mul_bits 8 x b) (sym (mod-eq_of_lt small))
