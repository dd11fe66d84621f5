-- Further laws of numbers that stand for refusals. Assumes nothing.
use mathlib.Core.Path.{◌≡◌, refl, sym, ap, ◌∙◌}
use native.Mathlib.Omega.{arith}
use lib.Dec.{eqb}
use mathlib.Core.Bool.{Bool, true, false, cond, ◌||◌}
use Prim.Native.Nat.{ℕ}
use borrow.Author.Tests.{eq-eqb, ne_eqb, eqb-true, both_ways}
use Rattle.base_rules.specs.declared.Refusal.{Refusal}
use mathlib.Core.List.{List}
use Rattle.std.specs.Prelude.{Result, Ok, Err}
use Rattle.base_rules.specs.Refusal.{number, refusal_of, told, numbered, told_number}
use Rattle.base_rules.proofs.Answers.{refusal_of-number, number-positive}
use Rattle.base_rules.proofs.ByFault.{named}

-- every refusal's number stands for one,
pub number_named : (e : Refusal) → named (number e) ≡ true
unfolding named
number_named e = simp (refusal_of-number e, eq-eqb (number e) (number e) refl) (go (eqb (number e) 0))
  where
    go : (b : Bool) → (b || true) ≡ true
    go true = refl
    go false = refl

-- and of two numbers that do the first, or where it is 0 the second
pub else_named : (m n : ℕ) → named m ≡ true → named n ≡ true → named (cond (eqb m 0) n m) ≡ true
else_named m n here rest = go (eqb m 0)
  where
    go : (b : Bool) → named (cond b n m) ≡ true
    go true = rest
    go false = here

-- the refusal that such a number stands for has that number
pub named_is : (n : ℕ) → named n ≡ true → (n ≡ 0 → ⊥) → number (refusal_of n) ≡ n
unfolding named
named_is n e some = eqb-true (number (refusal_of n)) n (go (eqb n 0) (ne_eqb n 0 some) e)
  where
    go : (b : Bool) → b ≡ false → (b || eqb (number (refusal_of n)) n) ≡ true → eqb (number (refusal_of n)) n ≡ true
    go false f q = q
    go true f q = absurd (both_ways true f refl)

-- an answer says the same, whether its refusal is told as a number or not
pub numbered_told : {A : Type 0} (values : A → List ℕ) (r : Result A Refusal) → told_number values (numbered r) ≡ told values r
unfolding told_number told
numbered_told values (Ok a) = refl
numbered_told values (Err e) = refl

-- nor has a second answer with a number the same number and values, where no second grant has the same values
pub one_numbered : {A : Type 0} (values : A → List ℕ) → ((a b : A) → values a ≡ values b → a ≡ b)
    → (r t : Result A ℕ) → told_number values r ≡ told_number values t → r ≡ t
unfolding told_number
one_numbered values one (Ok a) (Ok b) e = rw (one a b cc) refl
one_numbered values one (Ok a) (Err n) e = cc
one_numbered values one (Err n) (Ok b) e = cc
one_numbered values one (Err n) (Err m) e = cc

-- where the number of a refusal is due, that refusal is what is answered, whatever else would be
pub denied : {A : Type 0} (n : ℕ) (rest : Result A Refusal) (e : Refusal) → number e ≡ n → Err e ≡ cond (eqb n 0) rest (Err (refusal_of n))
denied n rest e due = rw (← due, ne_eqb (number e) 0 (λ z. omega (arith, number-positive e)), refusal_of-number e) refl

-- a refusal with such a number is that of the number
pub one_number : (n : ℕ) (e : Refusal) → named n ≡ true → (n ≡ 0 → ⊥) → refusal_of n ≡ e → n ≡ number e
one_number n e here some q = sym (named_is n here some) ∙ ap number q
