-- No second reception fits the promise of `receive`, and no second answer has the same number and values. Assumes nothing.
use mathlib.Core.Path.{◌≡◌, refl, sym, ap, ◌∙◌, subst}
use mathlib.Core.Bool.{true, false, cond}
use mathlib.Core.List.{List, [], ◌++◌, append_assoc, append-nil}
use Prim.Native.Nat.{ℕ, ◌≤◌, ◌<◌}
use borrow.Author.Tests.{eqb-true, eqb-false, ltb-true, ltb-false, eq-eqb, ne_eqb}
use lib.Dec.{ltb, eqb}
use lib.ListN.{length, get_or, drop, set, get_or-eq_default}
use lib.Seq.{get_or-set_same, set_out}
use Rattle.base_rules.specs.Bounds.{most_k}
use Rattle.base_rules.proofs.Logic.{either, clash}
use Rattle.base_rules.proofs.Answers.{refusal_of-number, one_told}
use Rattle.std.specs.Prelude.{Option, Some, None, Result, Ok, Err}
use Rattle.base_rules.specs.Refusal as refusals
use Rattle.base_rules.specs.declared.Refusal.{Refusal}
use Rattle.cut_rules.specs.declared.Address.{Address}
use Rattle.header_rules.specs.declared.Header.{Header}
use Rattle.header_rules.specs.Read.{fields_of, fault_of}
use Rattle.header_rules.proofs.Checks.{passing, size_from}
use Rattle.places_rules.specs.declared.Place.{Place}
use Rattle.places_rules.specs.declared.Table.{Table}
use Rattle.places_rules.specs.Places.{four, free, open_now, delivered, free_place, place_at, with_place, key_of, held_at, open_at, turned, opened_by, kept_in}
use Rattle.places_rules.proofs.Ranges.{range_from}
use Rattle.form_rules.proofs.Unique.{one_packet}
use Rattle.receiver_rules.specs.declared.Received.{Received}
use Rattle.receiver_rules.specs.declared.Received.TheVariants.{Kept, Delivered, Damaged}
use Rattle.receiver_rules.specs.declared.Seen.{Seen}
use Rattle.receiver_rules.specs.declared.Seen.TheVariants as seen
use Rattle.receiver_rules.specs.declared.Shown.{Shown}
use Rattle.receiver_rules.specs.Promise.{displaced_values, number_of, Reception, refused_as, State, room_fault, receive_fault, payload_of, keep_at}
use Rattle.receiver_rules.specs.Promise.{keep_of, bytes_at, Settled, waits, delivers, damaged, SettledAfter, Step}
use Rattle.receiver_rules.specs.Calls.{seen_values, shown_values, queried_number}
use Rattle.receiver_rules.specs.Claims.{due_for, kept_by}
use Rattle.receiver_rules.proofs.Ranges.{fine_table, place_fine}
use Rattle.receiver_rules.proofs.Steps.{room_due, header_due}

-- ---- answers, each read back off its number and values

displaced_from : List ℕ → Option ℕ
displaced_from v = cond (eqb (get_or v 0 0) 0) None (Some (get_or v 1 0))

received_from : ℕ × List ℕ → Result Received Refusal
received_from (n, v) =
    cond (eqb (length v) 0) (Err (refusals.refusal_of n))
    (cond (ltb 2 (length v)) (Ok (Delivered (get_or v 0 0) (get_or v 1 0) (displaced_from (drop 2 v))))
    (cond (eqb n 0) (Ok (Kept (displaced_from v))) (Ok (Damaged (displaced_from v)))))

received_back : (a : Result Received Refusal) → received_from (number_of a) ≡ a
unfolding received_from displaced_from number_of displaced_values
received_back (Ok (Kept None)) = refl
received_back (Ok (Kept (Some n))) = refl
received_back (Ok (Delivered length missing None)) = refl
received_back (Ok (Delivered length missing (Some n))) = refl
received_back (Ok (Damaged None)) = refl
received_back (Ok (Damaged (Some n))) = refl
received_back (Err e) = ap Err (refusal_of-number e)

-- no two answers of `receive` have the same number and values
pub received_one : (a b : Result Received Refusal) → number_of a ≡ number_of b → a ≡ b
received_one a b e = sym (received_back a) ∙ ap received_from e ∙ received_back b

-- what is shown of the first place, and the values of the others
seen_from : List ℕ → Seen
seen_from v =
    cond (eqb (get_or v 0 0) free) seen.Free
    (cond (eqb (get_or v 0 0) open_now) (seen.Open (get_or v 1 0))
    (cond (eqb (get_or v 0 0) delivered) (seen.Delivered (get_or v 1 0)) (seen.Spoiled (get_or v 1 0))))

others_from : List ℕ → List ℕ
others_from v = cond (eqb (get_or v 0 0) free) (drop 1 v) (drop 2 v)

seen_back : (a : Seen) (v : List ℕ) → seen_from (seen_values a ++ v) ≡ a
unfolding seen_from seen_values
seen_back seen.Free v = refl
seen_back (seen.Open n) v = refl
seen_back (seen.Delivered n) v = refl
seen_back (seen.Spoiled n) v = refl

others_back : (a : Seen) (v : List ℕ) → others_from (seen_values a ++ v) ≡ v
unfolding others_from seen_values
others_back seen.Free v = refl
others_back (seen.Open n) v = refl
others_back (seen.Delivered n) v = refl
others_back (seen.Spoiled n) v = refl

shown_from : List ℕ → Shown
shown_from v = record {
  first = seen_from v;
  second = seen_from (others_from v);
  third = seen_from (others_from (others_from v));
  fourth = seen_from (others_from (others_from (others_from v)));
}

shown_back : (p : Shown) → shown_from (shown_values p) ≡ p
unfolding shown_from
shown_back p =
    let v₃ : List ℕ = seen_values p.fourth ++ [] in
    let v₂ : List ℕ = seen_values p.third ++ v₃ in
    let v₁ : List ℕ = seen_values p.second ++ v₂ in
    let v : shown_values p ≡ seen_values p.first ++ v₁ = simp (append_assoc, append-nil) in
    ap shown_from v ∙ simp (seen_back, others_back)

-- no two answers of `query` have the same number and values
pub queried_one : (a b : Result Shown Refusal) → queried_number a ≡ queried_number b → a ≡ b
unfolding queried_number
queried_one a b e = one_told shown_values (λ p q same. sym (shown_back p) ∙ ap shown_from same ∙ shown_back q) a b e

-- ---- what is due where nothing is

module _ (own : Option Address) (t : Table) (lent : ℕ) (datagram : List ℕ) (room : ℕ) (passed : receive_fault own t lent datagram room ≡ 0) where
  -- a datagram that nothing is due for is not refused with 14 or 1
  pub room_passed : room_fault t lent room ≡ 0
  room_passed =
      either (eqb (room_fault t lent room) 0) (λ z. eqb-true (room_fault t lent room) 0 z)
      (λ z. room_due own t lent datagram room refl (eqb-false (room_fault t lent room) 0 z) ∙ passed)

  header_passed : fault_of own datagram ≡ 0
  header_passed =
      either (eqb (fault_of own datagram) 0) (λ z. eqb-true (fault_of own datagram) 0 z)
      (λ z. header_due own t lent datagram room refl room_passed refl (eqb-false (fault_of own datagram) 0 z) ∙ passed)

-- ---- the place that keeps a fragment has chunks that the code has

abbrev Low : Place → Type 0
Low p = p.fec ≡ true → p.rsk ≤ most_k

-- a place that was written is as it was written, or there is no such place and it reads as a free one
pub written_or_free : (t : Table) (i : ℕ) (p : Place) (P : Place → Type 0) → P p → (length t.places ≤ i → P free_place)
    → P (place_at (with_place t i p) i)
unfolding place_at with_place
written_or_free t i p P there past =
    either (ltb i (length t.places))
    (λ l. subst P (sym (get_or-set_same t.places i p free_place (ltb-true i (length t.places) l))) there)
    (λ l.
    let h : length t.places ≤ i = ltb-false i (length t.places) l in
    let none : get_or (set t.places i p) i free_place ≡ free_place =
    ap (λ (q : List Place). get_or q i free_place) (set_out t.places i p h) ∙ get_or-eq_default t.places free_place h in
    subst P (sym none) (past h))

kept_low : (t : Table) (i : ℕ) (p : Place) (h : Header) → Low p → Low (place_at (with_place t i (kept_in p h)) i)
unfolding kept_in
kept_low t i p h low = written_or_free t i (kept_in p h) Low low (λ past (f : false ≡ true). clash f refl)

module _ (own : Option Address) (t : Table) (lent : ℕ) (datagram b payload : List ℕ) (room : ℕ)
    (passed : receive_fault own t lent datagram room ≡ 0) where
  low_held : (i : ℕ) → i < four → Low (place_at t i)
  low_held i l f =
      ((range_from (place_at t i) (place_fine t (fine_table t lent room (room_passed own t lent datagram room passed)) i l)).coded f).1

  low_opened : Low (opened_by (fields_of datagram))
  unfolding opened_by
  low_opened f =
      ((size_from (fields_of datagram) (passing own datagram (header_passed own t lent datagram room passed)).placed).1 f).1

  keep_low : let k = keep_of t (fields_of datagram) b payload in Low (place_at k.table k.at)
  unfolding keep_of keep_at
  keep_low =
      let h : Header = fields_of datagram in
      let held : ℕ = held_at t (key_of h) in
      either (ltb held four)
      (λ e. rw e (kept_low t held (place_at t held) h (low_held held (ltb-true held four e))))
      (λ e. rw e (kept_low (turned t (open_at t)) (open_at t) (opened_by h) h low_opened))

-- ---- receptions

module _ {t : Table} {i : ℕ} {d : Option ℕ} {b out : List ℕ} (low : Low (place_at t i)) where
  settled_one : {y z : Reception} → Settled t i d b out y → Settled t i d b out z → y ≡ z
  settled_one (waits e) (waits f) = refl
  settled_one (waits e) (delivers Q f c) = clash f e
  settled_one (waits e) (damaged f c) = clash f e
  settled_one (delivers P e a) (waits f) = clash e f
  settled_one (delivers P e a) (delivers Q f c) = rw (one_packet (place_at t i) (bytes_at b i) P Q low e a c)
  settled_one (delivers P e a) (damaged f c) = absurd (c P a)
  settled_one (damaged e a) (waits f) = clash e f
  settled_one (damaged e a) (delivers Q f c) = absurd (a Q c)
  settled_one (damaged e a) (damaged f c) = refl

module _ (own : Option Address) (s : State) (datagram out : List ℕ) where
  -- the two cases of the promise
  pub step-settled : {y : Reception} → due_for own s datagram out ≡ 0 → Step own s datagram out y → SettledAfter (kept_by s datagram) out y
  unfolding Step
  step-settled e step = rw (eq-eqb (due_for own s datagram out) 0 e) at step

  -- where a number is due, the reception is that refusal with nothing changed
  pub step-refused : {y : Reception} → (due_for own s datagram out ≡ 0 → ⊥) → Step own s datagram out y
      → y ≡ refused_as (due_for own s datagram out) s.table s.bytes out
  unfolding Step
  step-refused e step = rw (ne_eqb (due_for own s datagram out) 0 e) at step

  -- no two receptions fit the promise for the same record and inputs
  pub reception_one : (y z : Reception) → Step own s datagram out y → Step own s datagram out z → y ≡ z
  reception_one y z p q =
      either (eqb (due_for own s datagram out) 0)
      (λ e.
      let none : due_for own s datagram out ≡ 0 = eqb-true (due_for own s datagram out) 0 e in
      settled_one (keep_low own s.table (length s.bytes) datagram s.bytes (payload_of datagram) (length out) none)
      (step-settled none p) (step-settled none q))
      (λ e. let some = eqb-false (due_for own s datagram out) 0 e in step-refused some p ∙ sym (step-refused some q))
