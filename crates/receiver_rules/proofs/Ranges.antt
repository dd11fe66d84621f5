-- 14 and 1: which of them is due after which tests, and what is known where neither is. Assumes nothing.
use mathlib.Core.Path.{◌≡◌, refl, sym, ap, ◌∙◌}
use mathlib.Core.Bool.{Bool, true, false, not, cond, ◌||◌}
use Prim.Native.Nat.{ℕ, zero, suc, ◌≤◌, ◌<◌}
use native.Mathlib.Omega.{arith}
use borrow.Author.Tests.{eqb-true, leb-false, ltb-true, ltb-false, not-false}
use lib.Dec.{ltb, leb, eqb}
use lib.ListN.{length}
use lib.Seq.{get_or-set_same}
use Rattle.base_rules.specs.Bounds.{most_l}
use Rattle.base_rules.proofs.Firsts.{due, skip, none_due, clear, clear_rest}
use Rattle.base_rules.proofs.Logic.{either, or_left, or_right, same, other}
use Rattle.places_rules.specs.declared.Place.{Place}
use Rattle.places_rules.specs.declared.Table.{Table}
use Rattle.places_rules.specs.Places.{four, free, free_place, place_at, with_place, first_place, open_at, all_places}
use Rattle.places_rules.specs.Faults.{bad_figures, bad_code, bad_place, bad_table}
use Rattle.places_rules.proofs.Records.{place_past}
use Rattle.receiver_rules.specs.Promise.{bad_room, room_fault}

-- ---- the room

module _ (lent room : ℕ) where
  -- the room is wrong where the lent bytes are not 49,152
  pub room_other : (lent ≡ all_places → ⊥) → true ≡ bad_room lent room
  unfolding bad_room
  room_other e = ap (λ (b : Bool). b || ltb room most_l) (sym (other e))

  -- with 49,152 bytes lent it is wrong just where the packet buffer is under 8,192
  pub room_told : lent ≡ all_places → ltb room most_l ≡ bad_room lent room
  unfolding bad_room
  room_told e = ap (λ (b : Bool). b || ltb room most_l) (sym (same e))

  pub room_from : bad_room lent room ≡ false → (lent ≡ all_places) × (most_l ≤ room)
  unfolding bad_room
  room_from e = (
    eqb-true lent all_places (not-false (eqb lent all_places) (or_left (not (eqb lent all_places)) _ e)),
    ltb-false room most_l (or_right (not (eqb lent all_places)) _ e),
  )

-- ---- 14, then 1

module _ (t : Table) (lent room : ℕ) where
  -- a record out of range gives 14, whatever the room
  pub due_14 : bad_table t ≡ true → 14 ≡ room_fault t lent room
  unfolding room_fault
  due_14 e = due 14 _ e

  module _ (fine : bad_table t ≡ false) where
    -- a record in range with the wrong room gives 1
    pub due_1 : bad_room lent room ≡ true → 1 ≡ room_fault t lent room
    unfolding room_fault
    due_1 e = skip 14 _ fine (due 1 _ e)

    -- a record in range with the right room gives neither
    pub due_none : bad_room lent room ≡ false → 0 ≡ room_fault t lent room
    unfolding room_fault
    due_none e = skip 14 _ fine (skip 1 _ e none_due)

  -- where neither 14 nor 1 is due, the record is in range
  pub fine_table : room_fault t lent room ≡ 0 → bad_table t ≡ false
  unfolding room_fault
  fine_table e = clear (bad_table t) 14 _ (λ z. omega arith) e

  -- where neither 14 nor 1 is due, 49,152 bytes and a packet buffer of at least 8,192 are lent
  pub fine_room : room_fault t lent room ≡ 0 → (lent ≡ all_places) × (most_l ≤ room)
  unfolding room_fault
  fine_room e =
      room_from lent room
      (clear (bad_room lent room) 1 _ (λ z. omega arith) (clear_rest (bad_table t) 14 _ (λ z. omega arith) e))

-- ---- a record in range

module _ (t : Table) (fine : bad_table t ≡ false) where
  -- in a record in range the place to be displaced next is one of the four
  pub turn_fine : t.oldest < four
  unfolding bad_table
  turn_fine = leb-false four t.oldest (or_left (leb four t.oldest) _ fine)

  all_fine : (bad_place (place_at t 0) || (bad_place (place_at t 1) || (bad_place (place_at t 2) || bad_place (place_at t 3)))) ≡ false
  unfolding bad_table
  all_fine = or_right (leb four t.oldest) _ fine

  -- in a record in range each of the four places is in range
  pub place_fine : (i : ℕ) → i < four → bad_place (place_at t i) ≡ false
  place_fine zero h = or_left (bad_place (place_at t 0)) _ all_fine
  place_fine (suc zero) h = or_left (bad_place (place_at t 1)) _ (or_right (bad_place (place_at t 0)) _ all_fine)
  place_fine (suc (suc zero)) h =
      or_left (bad_place (place_at t 2)) _ (or_right (bad_place (place_at t 1)) _ (or_right (bad_place (place_at t 0)) _ all_fine))
  place_fine (suc (suc (suc zero))) h =
      or_right (bad_place (place_at t 2)) _ (or_right (bad_place (place_at t 1)) _ (or_right (bad_place (place_at t 0)) _ all_fine))
  place_fine (suc (suc (suc (suc i)))) h = absurd (omega arith)

  -- past the fourth there is a free one
  free_fine : bad_place free_place ≡ false
  unfolding bad_place bad_figures bad_code
  free_fine = refl

  -- in a record of four in range, whatever index is read gives a place in range
  pub any_fine : length t.places ≡ four → (i : ℕ) → bad_place (place_at t i) ≡ false
  any_fine size i =
      either (ltb i four) (λ l. place_fine i (ltb-true i four l))
      (λ l. ap bad_place (sym (place_past t i (omega (arith, ltb-false i four l)) refl)) ∙ free_fine)

  -- the place that is opened is one of the four
  first_below : (test : ℕ → Bool) → first_place test t.oldest < four
  unfolding first_place
  first_below test =
      choice (test 0) 0 _ (omega arith)
      (choice (test 1) 1 _ (omega arith) (choice (test 2) 2 _ (omega arith) (choice (test 3) 3 _ (omega arith) turn_fine)))
    where
      choice : (b : Bool) (x y : ℕ) → x < four → y < four → cond b x y < four
      choice true x y p q = p
      choice false x y p q = q

  -- in a record in range the place that is opened is one of the four
  pub opens_below : open_at t < four
  unfolding open_at
  opens_below = first_below (λ i. eqb (place_at t i).condition free)

-- ---- a place that was written

-- one of the four places reads as it was written
pub written_place : (t : Table) (i : ℕ) (p : Place) → length t.places ≡ four → i < four → place_at (with_place t i p) i ≡ p
unfolding place_at with_place
written_place t i p size l = get_or-set_same t.places i p free_place (omega (arith, size))
