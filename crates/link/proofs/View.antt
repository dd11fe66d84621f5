-- What a call does from a good state, case by case. Assumes nothing.
use mathlib.Core.Path.{◌≡◌, sym, ap, ◌∙◌, subst}
use mathlib.Core.Bool.{true, false, not}
use mathlib.Core.List.{List, [], ◌∷◌}
use Prim.Native.Nat.{ℕ, ◌≤◌, ◌<◌}
use borrow.Author.Tests.{eq-eqb, ne_eqb, eqb-true, eqb-false, ltb-true, ltb-false, lt-ltb, le-ltb}
use lib.Dec.{ltb, eqb}
use lib.ListN.{length}
use Rattle.std.specs.Prelude.{Option, None}
use Rattle.base_rules.specs.Bounds.{most_l}
use Rattle.base_rules.specs.Tests.{first}
use Rattle.base_rules.proofs.Firsts.{due, skip, none_due}
use Rattle.base_rules.proofs.Logic.{either}
use Rattle.cut_rules.specs.declared.Address.{Address}
use Rattle.header_rules.specs.Read.{fields_of, fault_of}
use Rattle.places_rules.specs.declared.Table.{Table}
use Rattle.places_rules.specs.Places.{four, place_at, key_of, held_at, open_at, displaced_at, turned, opened_by, all_places}
use Rattle.places_rules.specs.Faults.{bad_table, place_fault}
use Rattle.receiver_rules.specs.Promise.{Reception, refused_as, State, room_fault, held_fault, receive_fault, payload_of, Keeping, keep_at, keep_of}
use Rattle.receiver_rules.specs.Promise.{SettledAfter, Step}
use Rattle.receiver_rules.proofs.Ranges.{room_told, due_none}

-- the record is in range and the lent bytes are all there, so that 14 and 1 are passed
pub record Good (s : State) : Type 0 where
  pub places : length s.table.places ≡ four
  pub ranged : bad_table s.table ≡ false
  pub whole : length s.bytes ≡ all_places

-- what a call does: the header is refused (2 to 8), the place that holds the number refuses the fragment (9 to 12), that place keeps it, or it
-- opens a place
pub data View (own : Option Address) (s : State) (d o : List ℕ) (y : Reception) : Type 0 where
  unheard : (fault_of own d ≡ 0 → ⊥) → y ≡ refused_as (fault_of own d) s.table s.bytes o → View own s d o y
  refuses : fault_of own d ≡ 0 → held_at s.table (key_of (fields_of d)) < four
      → (place_fault (place_at s.table (held_at s.table (key_of (fields_of d)))) (fields_of d) ≡ 0 → ⊥)
      → y ≡ refused_as (place_fault (place_at s.table (held_at s.table (key_of (fields_of d)))) (fields_of d)) s.table s.bytes o
      → View own s d o y
  keeps : fault_of own d ≡ 0 → held_at s.table (key_of (fields_of d)) < four
      → place_fault (place_at s.table (held_at s.table (key_of (fields_of d)))) (fields_of d) ≡ 0
      → SettledAfter (keep_at s.table (held_at s.table (key_of (fields_of d)))
      (place_at s.table (held_at s.table (key_of (fields_of d)))) None (fields_of d) s.bytes (payload_of d)) o y
      → View own s d o y
  opens : fault_of own d ≡ 0 → four ≤ held_at s.table (key_of (fields_of d))
      → SettledAfter (keep_at (turned s.table (open_at s.table)) (open_at s.table) (opened_by (fields_of d))
      (displaced_at s.table (open_at s.table)) (fields_of d) s.bytes (payload_of d)) o y
      → View own s d o y

-- ---- the tests, one after the other

is_zero : {n : ℕ} → n ≡ 0 → not (eqb n 0) ≡ false
is_zero e = ap not (eq-eqb _ _ e)

not-zero : {n : ℕ} → (n ≡ 0 → ⊥) → not (eqb n 0) ≡ true
not-zero e = ap not (ne_eqb _ _ e)

-- in a good state, with a packet buffer of 8,192 bytes or more, neither 14 nor 1 is due
pub no_room_fault : (s : State) → Good s → (room : ℕ) → most_l ≤ room → room_fault s.table (length s.bytes) room ≡ 0
no_room_fault s r room h =
    sym (due_none s.table _ room r.ranged (sym (room_told (length s.bytes) room r.whole) ∙ le-ltb room most_l h))

abbrev fault : Option Address → State → List ℕ → List ℕ → ℕ
fault own s d o = receive_fault own s.table (length s.bytes) d (length o)

module _ (own : Option Address) (s : State) (d o : List ℕ) (good : Good s) (room : most_l ≤ length o) where
  -- after 14 and 1, the header's
  fault_heard : (fault_of own d ≡ 0 → ⊥) → fault own s d o ≡ fault_of own d
  unfolding receive_fault
  fault_heard n = sym (skip _ _ (is_zero (no_room_fault s good (length o) room)) (due _ _ (not-zero n)))

  -- after those, the place's
  fault_held : fault_of own d ≡ 0 → fault own s d o ≡ held_fault s.table (fields_of d)
  unfolding receive_fault
  fault_held e =
      sym (skip _ _ (is_zero (no_room_fault s good (length o) room)) (skip _ _ (is_zero e) (last (held_fault s.table (fields_of d)))))
    where
      last : (n : ℕ) → n ≡ first ((not (eqb n 0), n) ∷ [])
      last n =
          either (eqb n 0)
          (λ e. eqb-true n 0 e ∙ skip n [] (is_zero (eqb-true n 0 e)) none_due)
          (λ e. due n [] (not-zero (eqb-false n 0 e)))

module _ (t : Table) (d : List ℕ) where
  abbrev at : ℕ
  at = held_at t (key_of (fields_of d))

  held_fault_lem : at < four → held_fault t (fields_of d) ≡ place_fault (place_at t at) (fields_of d)
  unfolding held_fault
  held_fault_lem l = rw (lt-ltb at four l)

  new_fault : four ≤ at → held_fault t (fields_of d) ≡ 0
  unfolding held_fault
  new_fault l = rw (le-ltb at four l)

  held_keeps : (b : List ℕ) → at < four
      → keep_of t (fields_of d) b (payload_of d) ≡ keep_at t at (place_at t at) None (fields_of d) b (payload_of d)
  unfolding keep_of
  held_keeps b l = rw (lt-ltb at four l)

  new-keeps : (b : List ℕ) → four ≤ at
      → keep_of t (fields_of d) b (payload_of d) ≡ keep_at (turned t (open_at t)) (open_at t) (opened_by (fields_of d)) (displaced_at t (open_at t))
      (fields_of d) b (payload_of d)
  unfolding keep_of
  new-keeps b l = rw (le-ltb at four l)

-- ---- the four cases

module _ (own : Option Address) (s : State) (d o : List ℕ) (y : Reception) where
  kept_by_lem : fault own s d o ≡ 0 → Step own s d o y → SettledAfter (keep_of s.table (fields_of d) s.bytes (payload_of d)) o y
  unfolding Step
  kept_by_lem e f = rw (eq-eqb _ _ e) at f

  refused_by : (n : ℕ) → fault own s d o ≡ n → (n ≡ 0 → ⊥) → Step own s d o y → y ≡ refused_as n s.table s.bytes o
  unfolding Step
  refused_by n e some f = rw (e, ne_eqb _ _ some) at f

  module _ (r : Good s) (h : most_l ≤ length o) (f : Step own s d o y) where
    abbrev j : ℕ
    j = at s.table d

    see_held : fault_of own d ≡ 0 → j < four → View own s d o y
    see_held e l =
        let is : fault own s d o ≡ place_fault (place_at s.table j) (fields_of d) = fault_held own s d o r h e ∙ held_fault_lem s.table d l in
        either (eqb (place_fault (place_at s.table j) (fields_of d)) 0)
        (λ b. keeps e l (eqb-true _ _ b)
        (subst (λ (k : Keeping). SettledAfter k o y) (held_keeps s.table d s.bytes l) (kept_by_lem (is ∙ eqb-true _ _ b) f)))
        (λ b. refuses e l (eqb-false _ _ b) (refused_by _ is (eqb-false _ _ b) f))

    see_new : fault_of own d ≡ 0 → four ≤ j → View own s d o y
    see_new e l =
        let is : fault own s d o ≡ 0 = fault_held own s d o r h e ∙ new_fault s.table d l in
        opens e l (subst (λ (k : Keeping). SettledAfter k o y) (new-keeps s.table d s.bytes l) (kept_by_lem is f))

-- whatever a call with room does from a good state is one of these four cases
pub view : (own : Option Address) (s : State) (d o : List ℕ) (y : Reception) → Good s → most_l ≤ length o → Step own s d o y → View own s d o y
view own s d o y r h f =
    either (eqb (fault_of own d) 0)
    (λ e.
    either (ltb (at s.table d) four)
    (λ l. see_held own s d o y r h f (eqb-true _ _ e) (ltb-true _ _ l))
    (λ l. see_new own s d o y r h f (eqb-true _ _ e) (ltb-false _ _ l)))
    (λ e. unheard (eqb-false _ _ e) (refused_by own s d o y _ (fault_heard own s d o r h (eqb-false _ _ e)) (eqb-false _ _ e) f))
