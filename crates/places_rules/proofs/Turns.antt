-- The m-th opening since the table was fresh goes to place m mod 4. So where no place is free, the one that is displaced was opened by
-- opening m - 4, and the other three later: it was opened longest ago. Assumes nothing.
use mathlib.Core.Path.{◌≡◌, refl, sym, ap, ◌∙◌}
use mathlib.Core.Bool.{Bool, true, false, cond}
use Prim.Native.Nat.{ℕ, ◌+◌, ◌%◌, ◌≤◌, ◌<◌}
use native.Mathlib.Omega.{arith}
use borrow.Author.Tests.{eq-eqb, ne_eqb, eqb-true, eqb-false, ltb-true, ltb-false}
use lib.Dec.{ltb, eqb}
use lib.ListN.{length, length-set, length-replicate, get_or-replicate}
use lib.Seq.{get_or-set_same, get_or-set_other}
use Rattle.base_rules.proofs.Logic.{either}
use Rattle.places_rules.specs.declared.Place.{Place}
use Rattle.places_rules.specs.declared.Table.{Table}
use Rattle.places_rules.specs.Places.{four, free, free_place, fresh_table, place_at, with_place, open_at, turned}
use Rattle.places_rules.specs.Claims.{Opened}
use Rattle.places_rules.proofs.Records.{first_0, first_1, first_2, first_3, first_none}

-- ---- which place is opened

module _ (m : ℕ) (t : Table) (r : Opened m t) where
  abbrev is_free : ℕ → Bool
  is_free i = eqb (place_at t i).condition free

  vacant : (i : ℕ) → i < four → m ≤ i → is_free i ≡ true
  vacant i l h = eq-eqb _ _ (r.left i l (λ k. omega arith))

  taken : (i : ℕ) → i < four → i < m → is_free i ≡ false
  taken i l h = ne_eqb _ _ (r.held i l h)

  opens_0 : m ≡ 0 → open_at t ≡ 0
  unfolding open_at
  opens_0 e = sym (first_0 is_free _ (vacant 0 (omega arith) (omega arith)))

  opens_1 : m ≡ 1 → open_at t ≡ 1
  unfolding open_at
  opens_1 e = sym (first_1 is_free _ (taken 0 (omega arith) (omega arith)) (vacant 1 (omega arith) (omega arith)))

  opens_2 : m ≡ 2 → open_at t ≡ 2
  unfolding open_at
  opens_2 e =
      sym (first_2 is_free _ (taken 0 (omega arith) (omega arith)) (taken 1 (omega arith) (omega arith)) (vacant 2 (omega arith) (omega arith)))

  opens_3 : m ≡ 3 → open_at t ≡ 3
  unfolding open_at
  opens_3 e =
      sym
      (first_3 is_free _ (taken 0 (omega arith) (omega arith)) (taken 1 (omega arith) (omega arith)) (taken 2 (omega arith) (omega arith))
      (vacant 3 (omega arith) (omega arith)))

  opens_oldest : four ≤ m → open_at t ≡ m % four
  unfolding open_at
  opens_oldest h =
      sym
      (first_none is_free _ (taken 0 (omega arith) (omega arith)) (taken 1 (omega arith) (omega arith)) (taken 2 (omega arith) (omega arith))
      (taken 3 (omega arith) (omega arith)))
      ∙ r.oldest.1 (λ l. omega arith)

  -- after m openings the place that is opened next is m mod 4
  pub opens : open_at t ≡ m % four
  opens =
      either (ltb m four)
      (λ l. either (eqb m 0) (λ e. let q = eqb-true m 0 e in omega (arith, opens_0 q))
      (λ n₀. either (eqb m 1) (λ e. let q = eqb-true m 1 e in omega (arith, opens_1 q))
      (λ n₁. either (eqb m 2) (λ e. let q = eqb-true m 2 e in omega (arith, opens_2 q))
      (λ n₂. let q : m ≡ 3 = three (ltb-true m four l) (eqb-false m 0 n₀) (eqb-false m 1 n₁) (eqb-false m 2 n₂) in omega (arith, opens_3 q)))))
      (λ g. opens_oldest (ltb-false m four g))
    where
      three : m < four → (m ≡ 0 → ⊥) → (m ≡ 1 → ⊥) → (m ≡ 2 → ⊥) → m ≡ 3
      three a b d e = omega arith

-- ---- a place that was written

module _ (t : Table) (j : ℕ) (p : Place) (size : length t.places ≡ four) where
  here : j < four → place_at (with_place t j p) j ≡ p
  unfolding place_at with_place
  here l = get_or-set_same t.places j p free_place (omega (arith, size))

  elsewhere : (i : ℕ) → (i ≡ j → ⊥) → place_at (with_place t j p) i ≡ place_at t i
  unfolding place_at with_place
  elsewhere i n = get_or-set_other t.places j i p free_place n

  same_size : length (with_place t j p).places ≡ four
  unfolding with_place
  same_size = length-set t.places j p ∙ size

  -- what is not free is not free after it, where p is not
  module _ (some : p.condition ≡ free → ⊥) where
    pub still_held : (i : ℕ) → i < four → ((i ≡ j → ⊥) → (place_at t i).condition ≡ free → ⊥) → (place_at (with_place t j p) i).condition ≡ free → ⊥
    still_held i l h =
        either (eqb i j)
        (λ e z. let q : i ≡ j = eqb-true i j e in
        some (sym (ap (λ (x : Place). x.condition) (ap (place_at (with_place t j p)) q ∙ here (omega arith))) ∙ z))
        (λ e z. let n : i ≡ j → ⊥ = eqb-false i j e in h n (sym (ap (λ (x : Place). x.condition) (elsewhere i n)) ∙ z))

-- ---- none is opened yet

-- a fresh table has had no opening
pub opened_fresh : Opened 0 fresh_table
unfolding fresh_table place_at
opened_fresh =
    record {
      size = length-replicate four free_place;
      held = λ i l h. omega arith;
      left = λ i l h. ap (λ (x : Place). x.condition) (get_or-replicate four i free_place free_place l);
      oldest = ((λ h. refl), (λ h. refl));
    }

-- ---- a held place is written

-- a held place that is written and stays held leaves the number of openings
pub opened_kept : (m : ℕ) (t : Table) (j : ℕ) (p : Place) → Opened m t → ((place_at t j).condition ≡ free → ⊥) → (p.condition ≡ free → ⊥)
    → Opened m (with_place t j p)
unfolding with_place
opened_kept m t j p r full some =
    record {
      size = same_size t j p r.size;
      held = λ i l h. still_held t j p r.size some i l (λ n. r.held i l h);
      left = λ i l h.
          let n : i ≡ j → ⊥ = λ e. full (ap (λ (x : ℕ). (place_at t x).condition) (sym e) ∙ r.left i l h) in
          ap (λ (x : Place). x.condition) (elsewhere t j p r.size i n) ∙ r.left i l h;
      oldest = r.oldest;
    }

-- ---- and the next is opened

module _ (m : ℕ) (t : Table) (p : Place) (r : Opened m t) (some : p.condition ≡ free → ⊥) where
  abbrev at : ℕ
  at = open_at t

  turn : Table
  turn = turned t at

  turned_first : m < four → turn.oldest ≡ 0
  unfolding turn turned
  turned_first l =
      let e : eqb (place_at t at).condition free ≡ true = vacant m t r at (omega (arith, opens m t r)) (omega (arith, opens m t r)) in
      ap (λ (b : Bool). cond b t.oldest ((t.oldest + 1) % four)) e ∙ r.oldest.0 l

  turned_next : four ≤ m → turn.oldest ≡ (m + 1) % four
  unfolding turn turned
  turned_next l =
      let e : eqb (place_at t at).condition free ≡ false = taken m t r at (omega (arith, opens m t r)) (omega (arith, opens m t r)) in
      ap (λ (b : Bool). cond b t.oldest ((t.oldest + 1) % four)) e ∙ omega (arith, r.oldest.1 (λ k. omega arith))

  below : (i : ℕ) → i < four → i < m + 1 → (i ≡ at → ⊥) → i < m
  below i a h n =
      either (eqb i m) (λ e. let q = eqb-true i m e in absurd (n (omega (arith, opens m t r)))) (λ e. less i h (eqb-false i m e))
    where
      less : (i : ℕ) → i < m + 1 → (i ≡ m → ⊥) → i < m
      less i b q = omega arith

  behind : (i : ℕ) → i < four → (i < m + 1 → ⊥) → i ≡ at → ⊥
  behind i a h e = either (ltb i (m + 1)) (λ l. h (ltb-true i (m + 1) l)) (λ l. let q = ltb-false i (m + 1) l in omega (arith, opens m t r))

  -- writing something held into the place whose turn it is makes one opening more
  pub opened_next : Opened (m + 1) (with_place (turned t (open_at t)) (open_at t) p)
  unfolding turn turned with_place place_at
  opened_next =
      record {
        size = same_size turn at p r.size;
        held = λ i l h. still_held turn at p r.size some i l (λ n. r.held i l (below i l h n));
        left = λ i l h.
            ap (λ (x : Place). x.condition) (elsewhere turn at p r.size i (behind i l h)) ∙ r.left i l (λ k. h (omega arith));
        oldest = (
          (λ h. turned_first (omega arith)),
          (λ h. either (ltb m four)
              (λ l. let q = ltb-true m four l in turned_first q ∙ omega arith)
              (λ l. turned_next (ltb-false m four l))),
        );
      }
