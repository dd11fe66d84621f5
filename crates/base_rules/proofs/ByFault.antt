-- Laws of answers by the number that is due: what a call with a Result answers, where its definition names a number. Assumes nothing.
use mathlib.Core.Path.{◌≡◌, refl, sym, ap, ◌∙◌}
use mathlib.Core.Bool.{Bool, true, false, ◌&&◌, ◌||◌}
use mathlib.Core.List.{List, [], ◌∷◌}
use Prim.Native.Nat.{ℕ}
use native.Mathlib.Omega.{arith}
use borrow.Author.Tests.{ne_eqb, eqb-true, both_ways}
use lib.Dec.{eqb}
use Rattle.std.specs.Prelude.{Ok, Err}
use Rattle.base_rules.specs.Answer.{granted, answered}
use Rattle.base_rules.specs.Tests.{first}
use Rattle.base_rules.specs.Refusal.{number, refusal_of, told, answer_by}
use Rattle.base_rules.specs.declared.Refusal.{Refusal}
use Rattle.base_rules.proofs.Answers.{refusal_of-number, number-positive, grants, refuses}
use Rattle.base_rules.proofs.Logic.{either, and_left, and_right}

-- ---- numbers that stand for refusals

-- a number that is 0 or stands for a refusal
unfoldable pub named : ℕ → Bool
named n = eqb n 0 || eqb (number (refusal_of n)) n

-- tests whose numbers all stand for refusals,
unfoldable pub all_named : List (Bool × ℕ) → Bool
all_named [] = true
all_named (t ∷ ts) = named t.1 && all_named ts

-- and then so does the number that is due
pub first_named : (ts : List (Bool × ℕ)) → all_named ts ≡ true → named (first ts) ≡ true
unfolding all_named first named
first_named [] e = refl
first_named ((true, n) ∷ ts) e = and_left (named n) _ e
first_named ((false, n) ∷ ts) e = first_named ts (and_right (named n) _ e)

left_out : (a b : Bool) → a ≡ false → (a || b) ≡ true → b ≡ true
left_out false b z e = e
left_out true b z e = absurd (both_ways true z refl)

-- ---- answers

module _ {A : Type 0} (fault : ℕ) where
  -- where no number is due, a call answers Ok,
  pub answers_ok : (a b : A) → 0 ≡ fault → b ≡ a → Ok b ≡ answer_by fault a
  unfolding answer_by
  answers_ok a b none e = rw (← none, e) refl

  -- and where one is due, the refusal with that number
  pub answers_err : (a : A) (e : Refusal) → number e ≡ fault → Err e ≡ answer_by fault a
  unfolding answer_by
  answers_err a e due =
      rw (← due, ne_eqb (number e) 0 (λ z. omega (arith, number-positive e)), refusal_of-number e) refl

  -- also where it is known by its number alone
  pub answers_due : (a : A) → (fault ≡ 0 → ⊥) → Err (refusal_of fault) ≡ answer_by fault a
  unfolding answer_by
  answers_due a some = rw (ne_eqb fault 0 some) refl

  -- the same as number and values
  pub told_ok : (values : A → List ℕ) (v : List ℕ) (b : A) → 0 ≡ fault → values b ≡ v → told values (Ok b) ≡ answered fault v
  unfolding told
  told_ok values v b none e = ap granted e ∙ grants fault v none

  pub told_err : (values : A → List ℕ) (v : List ℕ) (e : Refusal) → number e ≡ fault → told values (Err e) ≡ answered fault v
  unfolding told
  told_err values v e due = refuses (number e) fault v (number-positive e) due

  -- what is answered by a number that stands for a refusal has that number, or the values
  pub told_by : (values : A → List ℕ) (a : A) → named fault ≡ true → told values (answer_by fault a) ≡ answered fault (values a)
  unfolding named
  told_by values a e =
      either (eqb fault 0)
      (λ z.
      let none : 0 ≡ fault = sym (eqb-true fault 0 z) in
      ap (told values) (sym (answers_ok a a none refl)) ∙ told_ok values _ a none refl)
      (λ z.
      let due : number (refusal_of fault) ≡ fault = eqb-true _ _ (left_out _ _ z e) in
      ap (told values) (sym (answers_err a _ due)) ∙ told_err values _ _ due)
