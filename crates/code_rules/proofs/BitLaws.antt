-- A product by the bits of one factor, with the doubles of the other at hand. Assumes nothing.
use mathlib.Core.Path.{◌≡◌, refl, sym, ap, ap₂, ◌∙◌}
use mathlib.Core.Bool.{cond}
use Prim.Native.Nat.{ℕ, zero, suc, ◌+◌, ◌-◌, ◌*◌, ◌/◌, ◌%◌, ◌<◌}
use native.Mathlib.Nat.{zero-mul, one-mul, mod-eq_of_lt}
use native.Mathlib.Omega.{arith}
use lib.Dec.{T, eqb, eqb→eq, ltb}
use Rattle.base_rules.proofs.Every.{below, at}
use Rattle.field_rules.specs.Field.{◌⊕◌, reduced, times2, mul_bits, ◌⊗◌}
use Rattle.field_rules.proofs.Sums.{bit, bit_ind, add_0_r, add_self}
use Rattle.field_rules.proofs.Products.{times2-add}
use Rattle.code_rules.specs.inner.Kernel.{Chain, dotted}

twice_test : T (below 256 (λ x. eqb (times2 x) (cond (ltb x 128) (x + x) ((x - 128 + (x - 128)) ⊕ reduced))))
unfolding times2 ◌⊕◌
twice_test = tt

-- an element times α: below 128 its double, else the double less 256, with what x^8 is added
pub twice_is : (x : ℕ) → x < 256 → times2 x ≡ cond (ltb x 128) (x + x) ((x - 128 + (x - 128)) ⊕ reduced)
twice_is x h = eqb→eq _ _ (at 256 (λ x. eqb (times2 x) (cond (ltb x 128) (x + x) ((x - 128 + (x - 128)) ⊕ reduced))) twice_test x h)

times2_bit : (c k : ℕ) → c < 2 → times2 (c * k) ≡ c * times2 k
times2_bit c k h =
    bit_ind (λ c. times2 (c * k) ≡ c * times2 k)
    (ap times2 (zero-mul k) ∙ times2_0 ∙ sym (zero-mul (times2 k)))
    (ap times2 (one-mul k) ∙ sym (one-mul (times2 k))) c h
  where
    times2_0 : times2 0 ≡ 0
    times2_0 = ap times2 (sym (add_self 0)) ∙ times2-add 0 0 ∙ add_self (times2 0)

-- the doubling may go in
mul_bits_twice : (n k b : ℕ) → times2 (mul_bits n k b) ≡ mul_bits n (times2 k) b
unfolding mul_bits
mul_bits_twice zero k b = ap times2 (sym (add_self 0)) ∙ times2-add 0 0 ∙ add_self (times2 0)
mul_bits_twice (suc n) k b =
    times2-add (b % 2 * k) (times2 (mul_bits n k (b / 2)))
    ∙ ap₂ ◌⊕◌ (times2_bit (b % 2) k (bit b)) (ap times2 (mul_bits_twice n k (b / 2)))

bits_s : (n k b : ℕ) → mul_bits (suc n) k b ≡ b % 2 * k ⊕ mul_bits n (times2 k) (b / 2)
unfolding mul_bits
bits_s n k b = ap (λ y. b % 2 * k ⊕ y) (mul_bits_twice n k (b / 2))

bits_next : (n k l b d : ℕ) → l ≡ times2 k → mul_bits (suc n) k (b / d) ≡ b / d % 2 * k ⊕ mul_bits n l (b / d / 2)
bits_next n k l b d e = bits_s n k (b / d) ∙ ap (λ y. b / d % 2 * k ⊕ mul_bits n y (b / d / 2)) (sym e)

bits_0 : (k b : ℕ) → mul_bits 0 k b ≡ 0
unfolding mul_bits
bits_0 k b = refl

-- the bits of a choose among the doubles of k0: that is the product
pub dot_is : (a k0 k1 k2 k3 k4 k5 k6 k7 : ℕ) → k0 < 256 → Chain k0 k1 k2 k3 k4 k5 k6 k7 → dotted a k0 k1 k2 k3 k4 k5 k6 k7 ≡ k0 ⊗ a
unfolding ◌⊗◌ dotted
dot_is a k0 k1 k2 k3 k4 k5 k6 k7 h c =
    sym (ap₂ (λ k b. mul_bits 8 k b) (mod-eq_of_lt h) (omega arith)
    ∙ bits_next 7 k0 k1 a 1 c.c1 ∙ ap (λ y. a / 1 % 2 * k0 ⊕ y)
    (ap (mul_bits 7 k1) h2 ∙ bits_next 6 k1 k2 a 2 c.c2 ∙ ap (λ y. a / 2 % 2 * k1 ⊕ y)
    (ap (mul_bits 6 k2) h4 ∙ bits_next 5 k2 k3 a 4 c.c3 ∙ ap (λ y. a / 4 % 2 * k2 ⊕ y)
    (ap (mul_bits 5 k3) h8 ∙ bits_next 4 k3 k4 a 8 c.c4 ∙ ap (λ y. a / 8 % 2 * k3 ⊕ y)
    (ap (mul_bits 4 k4) h16 ∙ bits_next 3 k4 k5 a 16 c.c5 ∙ ap (λ y. a / 16 % 2 * k4 ⊕ y)
    (ap (mul_bits 3 k5) h32 ∙ bits_next 2 k5 k6 a 32 c.c6 ∙ ap (λ y. a / 32 % 2 * k5 ⊕ y)
    (ap (mul_bits 2 k6) h64 ∙ bits_next 1 k6 k7 a 64 c.c7 ∙ ap (λ y. a / 64 % 2 * k6 ⊕ y)
    (ap (mul_bits 1 k7) h128 ∙ bits_s 0 k7 (a / 128) ∙ ap (λ y. a / 128 % 2 * k7 ⊕ y) (bits_0 (times2 k7) (a / 128 / 2))
    ∙ add_0_r (a / 128 % 2 * k7)))))))))
  where
    h2 : a / 1 / 2 ≡ a / 2
    h2 = omega arith

    h4 : a / 2 / 2 ≡ a / 4
    h4 = omega arith

    h8 : a / 4 / 2 ≡ a / 8
    h8 = omega arith

    h16 : a / 8 / 2 ≡ a / 16
    h16 = omega arith

    h32 : a / 16 / 2 ≡ a / 32
    h32 = omega arith

    h64 : a / 32 / 2 ≡ a / 64
    h64 = omega arith

    h128 : a / 64 / 2 ≡ a / 128
    h128 = omega arith
