-- The claims of specs/Claims.antt, each by citation. Assumes nothing.
use mathlib.Core.Path.{◌≡◌, refl, sym, ap, ◌∙◌}
use mathlib.Core.List.{[], ◌∷◌}
use Prim.Native.Nat.{ℕ, ◌^◌, ◌<◌}
use native.Mathlib.Omega.{arith}
use borrow.Author.Tests.{lt-ltb, le-ltb}
use lib.Dec.{T, eqb, eqb→eq}
use lib.ListN.{get_or}
use Rattle.base_rules.specs.Answer.{granted}
use Rattle.base_rules.specs.Refusal.{number, told}
use Rattle.base_rules.proofs.Every.{below, at}
use Rattle.field_rules.specs.Calls.{quotient_of, number_of}
use Rattle.field_rules.specs.Claims.{Sum, Product, Reduction, Quotient, Powers, Logarithm, Ruled}
use Rattle.field_rules.specs.Field.{◌⊕◌, times2, ◌⊗◌, alpha, inv, log_of}
use Rattle.field_rules.proofs.Answers.{quotient_refused, quotient_given}
use Rattle.field_rules.proofs.Powers as powers
use Rattle.field_rules.proofs.Products as products
use Rattle.field_rules.proofs.Rules.{exps_at, logs_at}
use Rattle.field_rules.proofs.Sums as sums

-- the laws of the sum
pub sum : Sum
sum =
    record {
      element = λ a b h k. sums.add_lt h k;
      assoc = sums.add_assoc;
      comm = sums.add_comm;
      zero = sums.add_0_r;
      inverse = sums.add_self;
    }

-- the laws of the product
pub product : Product
product =
    record {
      element = products.mul_lt;
      assoc = products.mul_assoc;
      comm = products.mul_comm;
      one = products.mul_1_r;
      spread = products.mul-add_r;
      inverse = λ a p h. (powers.inv_lt a, powers.mul-inv a p h);
      not-zero = λ a b pa ha pb hb. powers.mul-pos a b ha pa pb hb;
    }

-- the first 8 powers of α are the powers of two
first_powers : T (below 8 (λ i. eqb (alpha i) (2 ^ i)))
unfolding alpha times2 ◌⊕◌
first_powers = tt

-- α is a root of 11D hex
root : alpha 8 ⊕ alpha 4 ⊕ alpha 3 ⊕ alpha 2 ⊕ 1 ≡ 0
unfolding alpha times2 ◌⊕◌
root = refl

-- the product by α = 2, reduced by 11D hex
pub reduction : Reduction
reduction =
    record {
      hex = refl;
      root = root;
      bits = λ i h. eqb→eq (alpha i) (2 ^ i) (at 8 (λ i. eqb (alpha i) (2 ^ i)) first_powers i h);
      kept = λ x h. sym (products.times2-mul x (omega arith)) ∙ products.times2_standard x (omega arith) ∙ simp (lt-ltb x 128 h);
      reduced = λ x h k. sym (products.times2-mul x k) ∙ products.times2_standard x k ∙ simp (le-ltb x 128 h);
    }

-- the quotient by an element but 0 is the product with its inverse
given : (a b : ℕ) → 0 < b → granted (a ⊗ inv b ∷ []) ≡ quotient_of a b
unfolding number_of told
given a b p = quotient_given a b (a ⊗ inv b) (λ e. omega arith) refl

-- b times the quotient of a and b is a, and no other element is the quotient
pub quotient : Quotient
unfolding number_of told number
quotient =
    record {
      back = λ a b q ha p h e.
          let same : a ⊗ inv b ≡ q = cc (given a b p) in
          ap (λ x. b ⊗ x) (sym same) ∙ powers.div-mul a b ha p h;
      only = λ a b q p h hq e.
          let same : q ≡ a ⊗ inv b = sym (ap (λ x. x ⊗ inv b) (sym e ∙ products.mul_comm b q) ∙ powers.mul-div q b hq p h) in
          sym (quotient_given a b q (λ z. omega arith) same);
      by_zero = λ a. sym (quotient_refused a 0 refl);
    }

-- no two of the first 255 powers of α are the same
pub powers_of_alpha : Powers
powers_of_alpha = record { power = powers.alpha-pow; apart = powers.alpha_inj; round = powers.alpha_255 }

-- the logarithm of an element but 0 is the one exponent below 255 that gives it
pub logarithm : Logarithm
logarithm =
    record {
      power = λ a p h. (powers.log_lt a p h, powers.alpha_log a p h);
      only = λ a l h e. sym (powers.log_alpha l h) ∙ ap log_of e;
    }

-- tables that keep the rules hold the powers and the logarithms, and each is the inverse of the other
pub ruled : Ruled
ruled e l re rl =
    record {
      powers = exps_at e re;
      logarithms = logs_at l rl;
      log_of_power = λ i h. ap (λ x. get_or l x 0) (exps_at e re i h) ∙ rl.entry i h;
      power_of_log = λ x p h.
          ap (λ i. get_or e i 0) (logs_at l rl x p h) ∙ exps_at e re (log_of x) (powers.log_lt x p h) ∙ powers.alpha_log x p h;
    }
