-- Cases, bytes that a splice leaves alone, and the place that holds a number. Assumes nothing.
use mathlib.Core.Path.{◌≡◌, sym, ap, ◌∙◌, subst}
use mathlib.Core.Bool.{Bool, true, false, not}
use mathlib.Core.List.{List, [], ◌∷◌}
use Prim.Native.Nat.{ℕ, zero, suc, ◌+◌, ◌-◌, ◌≤◌, ◌<◌}
use native.Mathlib.Omega.{arith}
use borrow.Author.Tests.{eqb-true, eqb-false, ltb-true, ltb-false, eq-eqb, ne_eqb, not-true}
use lib.Dec.{ltb, eqb}
use lib.ListN.{length, take, drop}
use lib.Seq.{get_or-set_other, take-take, take-nil, drop-drop}
use Rattle.base_rules.specs.Bytes.{splice}
use Rattle.base_rules.proofs.Logic.{either, clash, and_left, and_right, and_false}
use Rattle.base_rules.proofs.Splice.{splice_front, splice_behind}
use Rattle.places_rules.specs.declared.Place.{Place}
use Rattle.places_rules.specs.declared.Table.{Table}
use Rattle.places_rules.specs.Places.{four, free, free_place, place_at, with_place, key_in, holds, first_place, held_at}
use Rattle.places_rules.proofs.Records.{first_0, first_1, first_2, first_3, first_none}

-- ---- cases

-- two numbers are the same or they are not
pub same_or_not {ℓ} : {P : Type ℓ} (a b : ℕ) → (a ≡ b → P) → ((a ≡ b → ⊥) → P) → P
same_or_not a b p q = either (eqb a b) (λ e. p (eqb-true a b e)) (λ e. q (eqb-false a b e))

-- a number is below another or at least as great
pub less_or-not {ℓ} : {P : Type ℓ} (a b : ℕ) → (a < b → P) → (b ≤ a → P) → P
less_or-not a b p q = either (ltb a b) (λ e. p (ltb-true a b e)) (λ e. q (ltb-false a b e))

-- a claim of each of the four places
pub each-place {ℓ} : (P : ℕ → Type ℓ) → P 0 → P 1 → P 2 → P 3 → (i : ℕ) → i < four → P i
each-place P a b c d zero h = a
each-place P a b c d (suc zero) h = b
each-place P a b c d (suc (suc zero)) h = c
each-place P a b c d (suc (suc (suc zero))) h = d
each-place P a b c d (suc (suc (suc (suc i)))) h = absurd (omega arith)

-- ---- n bytes from a on, before and behind what was spliced in

in_front : (l : List ℕ) (a n at : ℕ) → a + n ≤ at → take n (drop a (take at l)) ≡ take n (drop a l)
in_front l zero n at h = take-take n at l (omega arith)
in_front [] (suc a) n at h = rw (take-nil at)
in_front (x ∷ l) (suc a) n zero h = absurd (omega arith)
in_front (x ∷ l) (suc a) n (suc at) h = in_front l a n at (omega arith)

module _ (d : List ℕ) (at : ℕ) (s : List ℕ) (fits : at + length s ≤ length d) (a n : ℕ) where
  -- bytes that end before what was spliced in are as they were
  pub spared_before : a + n ≤ at → take n (drop a (splice d at s)) ≡ take n (drop a d)
  spared_before h =
      sym (in_front (splice d at s) a n at h) ∙ ap (λ (l : List ℕ). take n (drop a l)) (splice_front d at s fits) ∙ in_front d a n at h

  -- so are bytes that begin behind it
  pub spared_behind : at + length s ≤ a → take n (drop a (splice d at s)) ≡ take n (drop a d)
  spared_behind h =
      let r : ℕ = a - (at + length s) in
      let e : at + length s + r ≡ a = omega arith in
      let split : (l : List ℕ) → drop r (drop (at + length s) l) ≡ drop a l = λ l. drop-drop r (at + length s) l ∙ ap (λ (k : ℕ). drop k l) e in
      ap (take n) (sym (split (splice d at s)) ∙ ap (drop r) (splice_behind d at s fits) ∙ split d)

-- ---- the first of the four that passes a test

module _ (test : ℕ → Bool) where
  pub first_found : first_place test four < four → test (first_place test four) ≡ true
  first_found h =
      either (test 0) (λ e₀. subst (λ (k : ℕ). test k ≡ true) (first_0 test four e₀) e₀)
      (λ n₀. either (test 1) (λ e₁. subst (λ (k : ℕ). test k ≡ true) (first_1 test four n₀ e₁) e₁)
      (λ n₁. either (test 2) (λ e₂. subst (λ (k : ℕ). test k ≡ true) (first_2 test four n₀ n₁ e₂) e₂)
      (λ n₂. either (test 3) (λ e₃. subst (λ (k : ℕ). test k ≡ true) (first_3 test four n₀ n₁ n₂ e₃) e₃)
      (λ n₃. absurd (omega (arith, first_none test four n₀ n₁ n₂ n₃))))))

  pub first_absent : four ≤ first_place test four → (i : ℕ) → i < four → test i ≡ false
  first_absent h =
      either (test 0) (λ e₀. absurd (omega (arith, first_0 test four e₀)))
      (λ n₀. either (test 1) (λ e₁. absurd (omega (arith, first_1 test four n₀ e₁)))
      (λ n₁. either (test 2) (λ e₂. absurd (omega (arith, first_2 test four n₀ n₁ e₂)))
      (λ n₂. either (test 3) (λ e₃. absurd (omega (arith, first_3 test four n₀ n₁ n₂ e₃)))
      (λ n₃. each-place (λ i. test i ≡ false) n₀ n₁ n₂ n₃))))

-- ---- the place that holds a number

module _ (t : Table) (n : ℕ) where
  -- the place that is found for a number holds it
  pub held_found : held_at t n < four → holds (place_at t (held_at t n)) n ≡ true
  unfolding held_at
  held_found = first_found (λ i. holds (place_at t i) n)

  -- where no place is found for a number, none of the four holds it
  pub held_absent : four ≤ held_at t n → (i : ℕ) → i < four → holds (place_at t i) n ≡ false
  unfolding held_at
  held_absent = first_absent (λ i. holds (place_at t i) n)

  -- it is held where one of the four holds it, and nowhere where none does;
  pub held_some : (i : ℕ) → i < four → holds (place_at t i) n ≡ true → held_at t n < four
  held_some i l e = less_or-not (held_at t n) four (λ h. h) (λ h. clash e (held_absent h i l))

  -- where none of the four holds a number, no place is found for it
  pub held_none : ((i : ℕ) → i < four → holds (place_at t i) n ≡ false) → four ≤ held_at t n
  held_none none = less_or-not (held_at t n) four (λ h. clash (held_found h) (none (held_at t n) h)) (λ h. h)

  -- it is the one place that holds it
  pub held_only : (i : ℕ) → i < four → holds (place_at t i) n ≡ true
      → ((j : ℕ) → j < four → (j ≡ i → ⊥) → holds (place_at t j) n ≡ false) → held_at t n ≡ i
  held_only i l e alone =
      let h : held_at t n < four = held_some i l e in
      same_or_not (held_at t n) i (λ q. q) (λ q. clash (held_found h) (alone (held_at t n) h q))

module _ (p : Place) (n : ℕ) where
  -- a place that is not free holds the number in its record
  pub holds_yes : (p.condition ≡ free → ⊥) → key_in p ≡ n → holds p n ≡ true
  unfolding holds
  holds_yes some e = simp (ne_eqb p.condition free some, eq-eqb (key_in p) n e)

  -- the number that a place holds is the one in its record
  pub holds_number : holds p n ≡ true → key_in p ≡ n
  unfolding holds
  holds_number e = eqb-true _ _ (and_right (not (eqb p.condition free)) _ e)

  -- a place that holds a number is not free
  pub holds_some : holds p n ≡ true → p.condition ≡ free → ⊥
  unfolding holds
  holds_some e = eqb-false _ _ (not-true (eqb p.condition free) (and_left (not (eqb p.condition free)) _ e))

  -- a place holds no number but the one in its record
  pub holds_other : (key_in p ≡ n → ⊥) → holds p n ≡ false
  unfolding holds
  holds_other e = rw (ne_eqb (key_in p) n e) (and_false (not (eqb p.condition free)))

-- ---- a place that was not written

-- to write one place leaves each other place as it was
pub other_place : (t : Table) (j : ℕ) (p : Place) (i : ℕ) → (i ≡ j → ⊥) → place_at (with_place t j p) i ≡ place_at t i
unfolding place_at with_place
other_place t j p i n = get_or-set_other t.places j i p free_place n
