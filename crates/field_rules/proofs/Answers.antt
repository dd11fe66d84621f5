-- Laws of the answers: which case of a call is which case of its definition. Assumes nothing.
use mathlib.Core.Path.{◌≡◌, ap, ◌∙◌}
use mathlib.Core.List.{[], ◌∷◌}
use Prim.Native.Nat.{ℕ}
use borrow.Author.Tests.{eq-eqb, ne_eqb}
use lib.Dec.{eqb, lit<}
use Rattle.std.specs.Prelude.{Result, Ok, Err}
use Rattle.base_rules.specs.Answer.{granted, refused, answered}
use Rattle.base_rules.specs.Refusal.{number, told}
use Rattle.base_rules.specs.declared.Refusal.{Refusal}
use Rattle.base_rules.specs.declared.Refusal.TheVariants as refusal
use Rattle.base_rules.specs.Tests.{first}
use Rattle.base_rules.proofs.Answers.{grants, refuses, one_told}
use Rattle.base_rules.proofs.Firsts.{due, skip, none_due}
use Rattle.field_rules.specs.Field.{◌⊗◌, inv, log_of}
use Rattle.field_rules.specs.Calls.{number_of, quotient_of, logarithm_of}

-- no second answer has the same number
pub one_element : (a b : Result ℕ Refusal) → number_of a ≡ number_of b → a ≡ b
unfolding number_of
one_element a b e = one_told (λ x. x ∷ []) (λ (x y : ℕ) same. cc) a b e

-- an answer v that only 0 has not, at 0 and at another x
at_zero : (x v : ℕ) → x ≡ 0 → refused 44 ≡ answered (first ((eqb x 0, 44) ∷ [])) (v ∷ [])
at_zero x v e = refuses 44 _ _ (lit< tt) (due 44 _ (eq-eqb x 0 e))

elsewhere : (x v r : ℕ) → (x ≡ 0 → ⊥) → r ≡ v → granted (r ∷ []) ≡ answered (first ((eqb x 0, 44) ∷ [])) (v ∷ [])
elsewhere x v r p e = ap (λ y. granted (y ∷ [])) e ∙ grants _ _ (skip 44 _ (ne_eqb x 0 p) none_due)

module _ (a b : ℕ) where
  -- a division by 0 is refused as 44 ZERO
  pub quotient_refused : b ≡ 0 → number_of (Err refusal.Zero) ≡ quotient_of a b
  unfolding number_of told number quotient_of
  quotient_refused e = at_zero b _ e

  -- a division by anything but 0 gives the product with the inverse
  pub quotient_given : (r : ℕ) → (b ≡ 0 → ⊥) → r ≡ a ⊗ inv b → number_of (Ok r) ≡ quotient_of a b
  unfolding number_of told number quotient_of
  quotient_given r p e = elsewhere b (a ⊗ inv b) r p e

module _ (a : ℕ) where
  -- the logarithm of 0 is refused as 44 ZERO
  pub logarithm_refused : a ≡ 0 → number_of (Err refusal.Zero) ≡ logarithm_of a
  unfolding number_of told number logarithm_of
  logarithm_refused e = at_zero a _ e

  -- of anything but 0 the logarithm is given
  pub logarithm_given : (r : ℕ) → (a ≡ 0 → ⊥) → r ≡ log_of a → number_of (Ok r) ≡ logarithm_of a
  unfolding number_of told number logarithm_of
  logarithm_given r p e = elsewhere a (log_of a) r p e
