-- The product by shift and add: a doubling, and the bits of one factor taken the lowest first. Assumes nothing.
use mathlib.Core.Path.{◌≡◌, sym, ap, ap₂, ◌∙◌}
use Prim.Native.Nat.{ℕ, zero, suc, ◌*◌, ◌/◌, ◌%◌, ◌≤◌, ◌<◌}
use native.Mathlib.Nat.{zero-mul, one-mul}
use native.Mathlib.Omega.{arith}
use Rattle.field_rules.specs.Field.{◌⊕◌, reduced, times2, mul_bits}
use Rattle.field_rules.proofs.Sums.{bit, bit_ind, add_assoc, add_0_r, add_self}
use Rattle.field_rules.proofs.Products.{times2-add}

-- ---- an element times α

-- moved up one place where x^8 does not fall out of the byte
pub stays : (x : ℕ) → x < 128 → x % 128 * 2 ≡ times2 x
unfolding times2
stays x h =
    let fell : x / 128 % 2 * reduced ≡ 0 = omega arith in
    let moved : x % 128 * 2 ≡ x * 2 % 256 = omega arith in
    moved ∙ sym (ap (λ y. x * 2 % 256 ⊕ y) fell ∙ add_0_r (x * 2 % 256))

-- and with what x^8 is added where it does
pub falls : (x : ℕ) → 128 ≤ x → x < 256 → x % 128 * 2 ⊕ reduced ≡ times2 x
unfolding times2
falls x h l =
    let fell : reduced ≡ x / 128 % 2 * reduced = omega arith in
    let moved : x % 128 * 2 ≡ x * 2 % 256 = omega arith in
    ap₂ ◌⊕◌ moved fell

-- ---- the bits of the second factor, the lowest first

times2_0 : times2 0 ≡ 0
times2_0 = ap times2 (sym (add_self 0)) ∙ times2-add 0 0 ∙ add_self (times2 0)

times2_bit : (c a : ℕ) → c < 2 → times2 (c * a) ≡ c * times2 a
times2_bit c a h =
    bit_ind (λ c. times2 (c * a) ≡ c * times2 a)
    (ap times2 (zero-mul a) ∙ times2_0 ∙ sym (zero-mul (times2 a)))
    (ap times2 (one-mul a) ∙ sym (one-mul (times2 a))) c h

-- a times α, times the n low bits of b, is their product times α
shift : (n a b : ℕ) → mul_bits n (times2 a) b ≡ times2 (mul_bits n a b)
unfolding mul_bits
shift zero a b = sym times2_0
shift (suc n) a b =
    ap₂ ◌⊕◌ (sym (times2_bit (b % 2) a (bit b))) (ap times2 (shift n a (b / 2)))
    ∙ sym (times2-add (b % 2 * a) (times2 (mul_bits n a (b / 2))))

-- one turn: a is added to r where the lowest bit of b is set, and a times α and the other bits of b take the place of a and b;
-- what r and they give together stays
pub turn : (n r a b : ℕ) → (r ⊕ b % 2 * a) ⊕ mul_bits n (times2 a) (b / 2) ≡ r ⊕ mul_bits (suc n) a b
unfolding mul_bits
turn n r a b =
    add_assoc r (b % 2 * a) (mul_bits n (times2 a) (b / 2))
    ∙ ap (λ x. r ⊕ (b % 2 * a ⊕ x)) (shift n a (b / 2))

-- with no bit left, r is all
pub none_left : (r a b : ℕ) → r ⊕ mul_bits 0 a b ≡ r
unfolding mul_bits
none_left r a b = add_0_r r
