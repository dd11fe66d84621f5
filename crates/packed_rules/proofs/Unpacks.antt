-- Unpacking: which answer is due after which tests. Assumes nothing.
use mathlib.Core.Path.{◌≡◌, refl, sym, ap, ap₂, ◌∙◌}
use mathlib.Core.Bool.{Bool, true, false, not, cond}
use mathlib.Core.List.{List, [], ◌∷◌}
use Prim.Native.Nat.{ℕ, ◌*◌}
use native.Mathlib.Omega.{arith}
use borrow.Author.Tests.{eq-eqb, ne_eqb, eqb-true, not-false}
use lib.Dec.{eqb}
use lib.ListN.{length, get_or}
use Rattle.base_rules.specs.Answer.{Answer}
use Rattle.base_rules.specs.Written.{number_of}
use Rattle.std.specs.Prelude.{Result, Ok, Err, is_ok}
use Rattle.base_rules.specs.Refusal.{fault_in}
use Rattle.base_rules.specs.declared.Refusal.{Refusal}
use Rattle.base_rules.proofs.Answers.{written_by, number-positive}
use Rattle.base_rules.proofs.Firsts.{due, skip, none_due, clear}
use Rattle.places_rules.specs.declared.Place.{Place}
use Rattle.places_rules.specs.declared.Table.{Table}
use Rattle.places_rules.specs.Places.{four, free_place, fresh_table, place_at}
use Rattle.packed_rules.specs.Packed.{place-bytes, table-bytes, place_from, table_from, bad_record, unpack_fault, unpack_call}

module _ (s : List ℕ) where
  -- bytes that are not as many as a record has are refused as 1 ROOM
  pub other_length : (length s ≡ table-bytes → ⊥) → 1 ≡ unpack_fault s
  unfolding unpack_fault
  other_length h = due 1 _ (ap not (ne_eqb (length s) table-bytes h))

  module _ (long : length s ≡ table-bytes) where
    right_length : not (eqb (length s) table-bytes) ≡ false
    right_length = ap not (eq-eqb (length s) table-bytes long)

    -- as many bytes as a record has, with a flag other than 0 and 1, are refused as 14 STATE
    pub bad_record_lem : bad_record s ≡ true → 14 ≡ unpack_fault s
    unfolding unpack_fault
    bad_record_lem e = skip 1 _ right_length (due 14 _ e)

    -- as many bytes as a record has, with each flag 0 or 1, are not refused
    pub no_fault : bad_record s ≡ false → 0 ≡ unpack_fault s
    unfolding unpack_fault
    no_fault e = skip 1 _ right_length (skip 14 _ e none_due)

  -- bytes that are not refused are as many as a record has
  pub right_size : unpack_fault s ≡ 0 → length s ≡ table-bytes
  unfolding unpack_fault
  right_size e =
      eqb-true (length s) table-bytes
      (not-false (eqb (length s) table-bytes) (clear (not (eqb (length s) table-bytes)) 1 _ (λ z. omega arith) e))

  -- an answer with the number due takes the bytes where that is 0
  taken_by : (a : Result (Unit {0}) Refusal) → fault_in a ≡ unpack_fault s → is_ok a ≡ eqb (unpack_fault s) 0
  unfolding fault_in
  taken_by (Ok u) e = sym (eq-eqb (unpack_fault s) 0 (sym e))
  taken_by (Err n) e = sym (ne_eqb (unpack_fault s) 0 (λ z. omega (arith, number-positive n, e, z)))

  module _ (a : Result (Unit {0}) Refusal) {taken : Bool} (is-a : fault_in a ≡ unpack_fault s) (is-taken : taken ≡ is_ok a) where
    -- bytes that are taken are as many as a record has
    pub taken_size : taken ≡ true → length s ≡ table-bytes
    taken_size e = right_size (eqb-true (unpack_fault s) 0 (sym (taken_by a is-a) ∙ sym is-taken ∙ e))

    -- the answer with the number due, and the record read or a fresh one by it, are what unpacking gives
    pub unpacked : (t : Table) → t ≡ cond taken (table_from s) fresh_table → (number_of a, t) ≡ unpack_call s
    unfolding unpack_call
    unpacked t is-t =
        ap₂ (λ (x : Answer) (y : Table). (x, y))
        (written_by a (unpack_fault s) is-a)
        (is-t ∙ ap (λ (b : Bool). cond b (table_from s) fresh_table) (is-taken ∙ taken_by a is-a))

  -- where no number is due, unpacking is done and gives the record that was read
  pub unpack_done : (t : Table) → 0 ≡ unpack_fault s → t ≡ table_from s → (number_of (Ok tt), t) ≡ unpack_call s
  unfolding fault_in
  unpack_done t is-0 is-t = unpacked (Ok tt) is-0 refl t is-t

-- ---- what is read, by whether it is taken

-- the first place of a fresh record is free
pub free_first : (t : Table) → t ≡ fresh_table → place_at t 0 ≡ free_place
unfolding place_at fresh_table
free_first t e = ap (λ (x : Table). place_at x 0) e

-- four places and the oldest, read if they are taken and else as in a fresh record, are the record by it
pub table_read : (taken : Bool) (s : List ℕ) {a b c d : Place} {o : ℕ} → a ≡ cond taken (place_from s 0) free_place
    → b ≡ cond taken (place_from s place-bytes) free_place
    → c ≡ cond taken (place_from s (2 * place-bytes)) free_place → d ≡ cond taken (place_from s (3 * place-bytes)) free_place
    → o ≡ cond taken (get_or s (four * place-bytes) 0) 0
    → record { places = a ∷ b ∷ c ∷ d ∷ []; oldest = o } ≡ cond taken (table_from s) fresh_table
unfolding table_from fresh_table
table_read true s is-a is_b is_c is-d is-o = rw (is-a, is_b, is_c, is-d, is-o) refl
table_read false s is-a is_b is_c is-d is-o = rw (is-a, is_b, is_c, is-d, is-o) refl
