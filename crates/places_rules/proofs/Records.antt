-- The record, read and changed: which case of a definition a branch of the code is. Assumes nothing.
use mathlib.Core.Path.{◌≡◌, refl, sym, ap, ◌∙◌}
use mathlib.Core.Bool.{Bool, true, false, cond}
use mathlib.Core.List.{List, [], ◌∷◌, map}
use Prim.Native.Nat.{ℕ, zero, suc, ◌+◌, ◌-◌, ◌*◌, ◌%◌, ◌≤◌, ◌<◌}
use native.Mathlib.Nat.{le_of_suc-le-suc, not-suc-le-zero}
use native.Mathlib.Omega.{arith}
use borrow.Author.Tests.{eq-eqb, ne_eqb}
use lib.Dec.{leb, eqb}
use lib.ListN.{length, get_or, set, length-map, get_or-eq_default}
use lib.Seq.{set_out}
use Rattle.base_rules.specs.Bounds.{place}
use Rattle.header_rules.specs.declared.Header.{Header}
use Rattle.places_rules.specs.declared.Place.{Place}
use Rattle.places_rules.specs.declared.Table.{Table}
use Rattle.std.specs.Prelude.{Some, None}
use Rattle.places_rules.specs.Places.{four, free, open_now, free_place, place_at, with_place, holds, key_in, first_place, displaced_at, turned}
use Rattle.places_rules.specs.Places.{is_last, offset_of, kept_in}

-- ---- the length of an array in a record

-- an array is as long as the one made of it element by element
pub as_long : {A B : Type 0} (l : List A) (f : A → B) {n : ℕ} → length (map f l) ≡ n → length l ≡ n
as_long l f e = sym (length-map l f) ∙ e

-- ---- a place of the four, and what stands past them

-- within a list it does not matter what stands past it
within : (l : List Place) (i : ℕ) (d e : Place) → i < length l → get_or l i d ≡ get_or l i e
within [] i d e h = absurd (not-suc-le-zero h)
within (x ∷ l) zero d e h = refl
within (x ∷ l) (suc i) d e h = within l i d e (le_of_suc-le-suc h)

module _ (t : Table) (i : ℕ) where
  -- an index within the record reads its place there, whatever is taken to stand past the end
  pub place-within : (d : Place) → i < length t.places → get_or t.places i d ≡ place_at t i
  unfolding place_at
  place-within d h = within t.places i d free_place h

  -- an index past the record reads a free place
  pub place_past : {p : Place} → length t.places ≤ i → p ≡ free_place → p ≡ place_at t i
  unfolding place_at
  place_past h e = e ∙ sym (get_or-eq_default t.places free_place h)

  -- writing a place past the record changes nothing
  pub with_past : (p : Place) → length t.places ≤ i → t ≡ with_place t i p
  unfolding with_place
  with_past p h = ap (λ (l : List Place). record { places = l; oldest = t.oldest }) (sym (set_out t.places i p h))

-- ---- the first of four that passes a test

module _ (test : ℕ → Bool) (d : ℕ) where
  -- place 0 is the first where it passes the test
  pub first_0 : test 0 ≡ true → 0 ≡ first_place test d
  unfolding first_place
  first_0 e₀ = simp e₀

  module _ (e₀ : test 0 ≡ false) where
    -- place 1 is the first where it passes and place 0 does not
    pub first_1 : test 1 ≡ true → 1 ≡ first_place test d
    unfolding first_place
    first_1 e₁ = simp (e₀, e₁)

    module _ (e₁ : test 1 ≡ false) where
      -- place 2 is the first where it passes and neither place before it does
      pub first_2 : test 2 ≡ true → 2 ≡ first_place test d
      unfolding first_place
      first_2 e₂ = simp (e₀, e₁, e₂)

      module _ (e₂ : test 2 ≡ false) where
        -- place 3 is the first where it passes and none of the three before it does
        pub first_3 : test 3 ≡ true → 3 ≡ first_place test d
        unfolding first_place
        first_3 e₃ = simp (e₀, e₁, e₂, e₃)

        -- where none of the four passes, it is the number given for that case
        pub first_none : test 3 ≡ false → d ≡ first_place test d
        unfolding first_place
        first_none e₃ = simp (e₀, e₁, e₂, e₃)

-- ---- a place that was looked at

module _ (t : Table) (i : ℕ) {p : Place} (is-p : p ≡ place_at t i) where
  module _ (key : ℕ) where
    -- a free place holds no number
    pub not_held : p.condition ≡ free → false ≡ holds (place_at t i) key
    unfolding holds
    not_held e = rw (← is-p, eq-eqb _ _ e)

    -- a place that is not free holds a number just where that is its own
    pub held_by : (p.condition ≡ free → ⊥) → eqb p.number key ≡ holds (place_at t i) key
    unfolding holds key_in
    held_by e = rw (← is-p, ne_eqb _ _ e)

  -- a place that was read is free just where the one in the record is
  pub free_by : eqb p.condition free ≡ eqb (place_at t i).condition free
  free_by = ap (λ (q : Place). eqb q.condition free) is-p

  -- displacing an open place names its number
  pub displaces : p.condition ≡ open_now → Some p.number ≡ displaced_at t i
  unfolding displaced_at key_in
  displaces e = rw (← is-p, eq-eqb _ _ e)

  -- displacing a place that is not open names none
  pub displaces_none : (p.condition ≡ open_now → ⊥) → None ≡ displaced_at t i
  unfolding displaced_at
  displaces_none e = rw (← is-p, ne_eqb _ _ e)

module _ (t : Table) (i : ℕ) {b : Bool} (is_b : b ≡ eqb (place_at t i).condition free) where
  -- opening a free place leaves which one is displaced next
  pub not_turned : b ≡ true → t ≡ turned t i
  unfolding turned
  not_turned e = rw (← is_b, e)

  -- opening a place that was not free moves on to the next of the four, the first behind the fourth
  pub turns : b ≡ false → record { places = t.places; oldest = (t.oldest + 1) % four } ≡ turned t i
  unfolding turned
  turns e = rw (← is_b, e)

-- ---- a fragment that is kept

module _ (h : Header) where
  -- with FEC no fragment is taken for the last
  pub fec-not-last : h.fec ≡ true → false ≡ is_last h
  unfolding is_last
  fec-not-last e = simp e

  -- without FEC a fragment is the last just where Findex + 1 reaches Fcount
  pub last_at_end : h.fec ≡ false → {b : Bool} → b ≡ leb h.count (h.index + 1) → b ≡ is_last h
  unfolding is_last
  last_at_end e q = q ∙ simp e

  module _ {b : Bool} (is_b : b ≡ is_last h) where
    -- of two figures, for the last fragment and for the others, the last takes the first
    pub choice_last : (x y : ℕ) → b ≡ true → x ≡ cond (is_last h) x y
    choice_last x y e = rw (← is_b, e)

    -- a fragment that is not the last takes the second
    pub choice_other : (x y : ℕ) → b ≡ false → y ≡ cond (is_last h) x y
    choice_other x y e = rw (← is_b, e)

    -- the last fragment's payload stands at the end of its place
    pub offset_last : b ≡ true → place - h.plen ≡ offset_of h
    unfolding offset_of
    offset_last e = choice_last (place - h.plen) (h.index * h.plen) e

    -- a last fragment no shorter than the place would stand from its start
    pub offset_long : b ≡ true → place ≤ h.plen → 0 ≡ offset_of h
    offset_long e long = omega (arith, offset_last e)

    -- the payload of any other fragment stands from Findex times Plen on
    pub offset_other : b ≡ false → h.index * h.plen ≡ offset_of h
    unfolding offset_of
    offset_other e = choice_other (place - h.plen) (h.index * h.plen) e

-- a place changed by a fragment in s, last size and kept flags alone has kept that fragment
pub keeps : (p : Place) (h : Header) {size last : ℕ} {kept : List Bool} → size ≡ cond (is_last h) p.size h.plen
    → last ≡ cond (is_last h) h.plen p.last → kept ≡ set p.kept h.index true
    → record {
      condition = p.condition;
      number = p.number;
      count = p.count;
      fec = p.fec;
      rsk = p.rsk;
      rsz = p.rsz;
      size = size;
      last = last;
      kept = kept;
    } ≡ kept_in p h
unfolding kept_in
keeps p h e₁ e₂ e₃ = rw (e₁, e₂, e₃)
