-- The record that crosses to C as bytes: what is none is refused, and what is packed again is all of it. Assumes nothing.
use mathlib.Core.Path.{◌≡◌, refl, sym, ap, ◌∙◌, subst}
use mathlib.Core.Bool.{Bool, not, cond}
use mathlib.Core.List.{List, [], ◌∷◌}
use Prim.Native.Nat.{ℕ, zero, suc, ◌<◌, ◌≤◌}
use native.Mathlib.Nat.{le_of_suc-le-suc}
use native.Mathlib.Omega.{arith}
use base.Fml.{Fml}
use borrow.Author.Tests.{eqb-true, eq-eqb, ne_eqb, lt-ltb, le-ltb, not-false}
use denote.Array.{each}
use denote.Shadow.{shadow}
use lib.Dec.{ltb, eqb}
use lib.ListN.{length, get_or}
use mir.Val.{Val}
use Rattle.std.specs.Prelude.{Option, Result, Ok, Err}
use Rattle.base_rules.specs.Answer.{Answer, answered, outcome, bytes_in}
use Rattle.base_rules.specs.Bounds.{most_l}
use Rattle.base_rules.specs.Bytes.{splice}
use Rattle.base_rules.specs.Tests.{first}
use Rattle.base_rules.specs.Written.{number_of}
use Rattle.base_rules.specs.Refusal.{number, told}
use Rattle.base_rules.specs.declared.Refusal.{Refusal}
use Rattle.base_rules.proofs.Firsts.{clear}
use Rattle.base_rules.proofs.Logic.{either}
use Rattle.code_rules.proofs.CallCases.{granted_by, refused_by}
use Rattle.cut_rules.specs.declared.Address.{Address}
use Rattle.packed_rules.specs.Packed.{table-bytes, packed_of, pack_call, table_from, bad_record, unpack_fault, unpack_call}
use Rattle.packed_rules.specs.Claims.{Typed, TypedTable}
use Rattle.packed_rules.proofs.Proved.{unpacks, packed_length}
use Rattle.places_rules.specs.declared.Table.{Table}
use Rattle.places_rules.specs.declared.Place.{Place}
use Rattle.places_rules.specs.Faults.{bad_table}
use Rattle.places_rules.specs.Places.{free_place, fresh_table}
use Rattle.places_rules.specs.contracts.Place as a-place
use Rattle.places_rules.proofs.Records.{as_long}
use Rattle.receiver_rules.specs.Promise as promise
use Rattle.receiver_rules.specs.Promise.{bad_room, room_fault, Step}
use Rattle.receiver_rules.specs.declared.Received.{Received}
use Rattle.card_rules.specs.Told.{refusal_in, told_length, room_for, CardTold}
use Rattle.card_rules.specs.Receiving.{on_record, places_told, places_widths, query_for, receipt_widths, told_after, short_fault}
use Rattle.card_rules.specs.Receiving.{Held, ReceivedWith, CardReceived}
use Rattle.card_rules.proofs.ToldLaws.{chosen}
use Rattle.card_rules.proofs.TellLaws.{whole}

-- ---- the record

-- what each element of an array has, for an array that is a value
pub each_has : {A : Type 0} (own : A → List Val → Fml) (P : A → Type 0) → ((x : A) (vs : List Val) → shadow (own x vs) → P x)
    → (l : List A) (us : List Val) → shadow (each A own l us) → (i : ℕ) (d : A) → i < length l → P (get_or l i d)
each_has own P h [] us s i d b = absurd (omega arith)
each_has own P h (x ∷ l) [] s i d b = absurd s
each_has own P h (x ∷ l) (u ∷ us) s zero d b = h x (u ∷ []) s.0
each_has own P h (x ∷ l) (u ∷ us) s (suc i) d b = each_has own P h l us s.1 i d (le_of_suc-le-suc b)

-- so do the places of a record
pub typed_place : (l : List Place) (us : List Val)
    → shadow (each (a-place.the_row).Denot (a-place.the_row).own_val l us) → (i : ℕ) → i < length l
    → Typed (get_or l i free_place)
typed_place l us s i b =
    each_has (a-place.the_row).own_val Typed
    (λ p vs own.
    let fields = own.1.1 in
    record {
      condition = omega (arith, fields.0);
      number = omega (arith, fields.1.0);
      count = omega (arith, fields.1.1.0);
      rsk = omega (arith, fields.1.1.1.1.0);
      rsz = omega (arith, fields.1.1.1.1.1.0);
      size = omega (arith, fields.1.1.1.1.1.1.0);
      last = omega (arith, fields.1.1.1.1.1.1.1.0);
      kept = fields.1.1.1.1.1.1.1.1.0.1.0.1;
    })
    l
    us
    s
    i
    free_place
    b

-- what is unpacked has the length of a record,
pub long_record : (s : List ℕ) → unpack_fault s ≡ 0 → length s ≡ table-bytes
unfolding unpack_fault
long_record s none =
    eqb-true (length s) table-bytes
    (not-false (eqb (length s) table-bytes) (clear (not (eqb (length s) table-bytes)) 1 ((bad_record s, 14) ∷ []) (λ (e : 1 ≡ 0). omega arith) none))

-- and what is packed there is all of it
pub packed_there : (t : Table) (s y : List ℕ) (w : Result (Unit {0}) Refusal) → length (packed_of t) ≡ table-bytes → length s ≡ table-bytes
    → outcome (number_of w) y ≡ pack_call t s → y ≡ packed_of t
unfolding pack_call bytes_in
packed_there t s y w long as_long e =
    ap bytes_in e
    ∙ chosen (ltb (length s) table-bytes) (splice s 0 (packed_of t)) s
    ∙ ap (λ (b : Bool). cond b s (splice s 0 (packed_of t))) (le-ltb (length s) table-bytes (omega arith))
    ∙ whole s (packed_of t) (long ∙ sym as_long)

-- ---- the ends of the calls

module _ (s : List ℕ) (w : Result (Unit {0}) Refusal) (t : Table) (e : (number_of w, t) ≡ unpack_call s) where
  answer_is : number_of w ≡ answered (unpack_fault s) []
  unfolding unpack_call
  answer_is = ap (λ (x : Answer × Table). x.0) e

  -- bytes that unpacking refuses end the call with the number it gave
  pub refused_record {ℓ} : {A : Type ℓ} (refusal : ℕ → A) (call : Table → A) (n : Refusal) → w ≡ Err n → on_record s refusal call ≡ refusal (number n)
  unfolding number_of told on_record
  refused_record refusal call n is =
      let due = refused_by (number n) (unpack_fault s) [] (sym (ap number_of is) ∙ answer_is) in
      let some : unpack_fault s ≡ 0 → ⊥ = λ z. omega (arith, due.0, due.1) in
      ap (λ (b : Bool). cond b (call (table_from s)) (refusal (unpack_fault s))) (ne_eqb (unpack_fault s) 0 some) ∙ ap refusal (sym due.0)

  -- bytes that unpacking takes have no fault, and what it gave is the record in them
  pub good_record : w ≡ Ok tt → (unpack_fault s ≡ 0) × (t ≡ table_from s)
  unfolding number_of told unpack_call
  good_record is =
      let none : unpack_fault s ≡ 0 = sym (granted_by (unpack_fault s) [] [] (sym (ap number_of is) ∙ answer_is)).0 in
      let there : t ≡ cond (eqb (unpack_fault s) 0) (table_from s) fresh_table = ap (λ (x : Answer × Table). x.1) e in
      (none, there ∙ ap (λ (b : Bool). cond b (table_from s) fresh_table) (eq-eqb (unpack_fault s) 0 none))

  -- with bytes that unpacking takes, the call goes on with the record it gave
  pub taken_record {ℓ} : {A : Type ℓ} (refusal : ℕ → A) (call : Table → A) → w ≡ Ok tt → on_record s refusal call ≡ call t
  unfolding on_record
  taken_record refusal call is =
      let good = good_record is in
      ap (λ (b : Bool). cond b (call (table_from s)) (refusal (unpack_fault s))) (eq-eqb (unpack_fault s) 0 good.0) ∙ ap call (sym good.1)

asked_short : (t : Table) → refusal_in (room_for places_widths [] (answered (room_fault t 0 most_l) (places_told t))) ≡ short_fault t
unfolding room_fault bad_room short_fault first answered room_for refusal_in
asked_short t = either (bad_table t) (λ e. rw e refl) (λ e. rw e refl)

-- a receiving with too few bytes to tell in gives the number of a query with none lent, and changes nothing
pub receive_short : (own : Option Address) (datagram : List ℕ) (before after : Held) (r : ℕ) {told : List ℕ}
    → length before.told < told_length receipt_widths → CardTold places_widths (query_for before.record_bytes 0) [] told r → after ≡ before
    → CardReceived own datagram before after r
unfolding CardReceived on_record query_for room_for refusal_in
receive_short own datagram before after r short asked same =
    let number = asked.number in
    let none = lt-ltb (length before.told) (told_length receipt_widths) short in
    either (eqb (unpack_fault before.record_bytes) 0)
    (λ e. rw (e, none) ((rw e at number) ∙ asked_short (table_from before.record_bytes), same))
    (λ e. rw e (rw e at number, same))

module _ (own : Option Address) (datagram : List ℕ) (before after : Held) (r : ℕ) (w : Result (Unit {0}) Refusal) (x : Table)
    (e : (number_of w, x) ≡ unpack_call before.record_bytes) where
  -- a receiving with bytes that are no record gives the number of unpacking and changes nothing
  pub receive_refused : (n : Refusal) → w ≡ Err n → r ≡ number n → after ≡ before → CardReceived own datagram before after r
  unfolding CardReceived
  receive_refused n is number_is same = subst (λ (X : Type 0). X) (sym (refused_record before.record_bytes w x e _ _ n is)) (number_is, same)

  -- a receiving that fits the promise of `receive`, packed again and told, fits that of the call for C
  pub received_there : (o : Option Address) (v : Result (Unit {0}) Refusal) (t : Table) (a : Result Received Refusal) → w ≡ Ok tt → o ≡ own
      → Step o (record { table = x; bytes = before.lent }) datagram before.out (promise.reception a t after.lent after.out)
      → TypedTable t → outcome (number_of v) after.record_bytes ≡ pack_call t before.record_bytes
      → told_length receipt_widths ≤ length before.told
      → (r ≡ (promise.number_of a).0) × (after.told ≡ told_after a before.told) → CardReceived own datagram before after r
  unfolding CardReceived
  received_there o v t a done is-own step typed packed room said =
      let s : List ℕ = before.record_bytes in
      let y : promise.Reception = promise.reception a t after.lent after.out in
      let there : after.record_bytes ≡ packed_of t =
      packed_there t s after.record_bytes v (packed_length t typed) (long_record s (good_record s w x e done).0) packed in
      let with_record : ReceivedWith own datagram before after r x = record {
        answer = a;
        table = t;
        step = subst (λ (z : Option Address). Step z (record { table = x; bytes = before.lent }) datagram before.out y) is-own step;
        packed = there;
        read_back = ap unpack_call there ∙ unpacks t typed;
        told = said.1;
        number = said.0;
      } in
      rw (taken_record s w x e _ _ done, le-ltb (length before.told) (told_length receipt_widths) room) with_record
