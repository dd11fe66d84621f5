-- The claims of specs/Claims.antt on the receiver. Assumes nothing.
use mathlib.Core.Path.{◌≡◌, refl, sym, ap, ◌∙◌, subst}
use mathlib.Core.Bool.{false}
use mathlib.Core.List.{List, [], ◌∷◌}
use mathlib.Core.Logic.{◌⊎◌, inl, inr}
use Prim.Native.Nat.{ℕ, zero, suc, ◌<◌, ◌≤◌}
use native.Mathlib.Omega.{arith}
use borrow.Author.Tests.{eqb-true, eqb-false, eq-eqb, ne_eqb, ltb-true, ltb-false, lt-ltb, le-ltb}
use lib.Dec.{eqb, lit<}
use lib.ListN.{length, length-replicate, get_or-replicate}
use Rattle.base_rules.specs.declared.Refusal.{Refusal}
use Rattle.std.specs.Prelude.{Option, Result, Ok, Err, Some, None}
use Rattle.base_rules.specs.Answer.{refused, Outcome, outcome, settled, answer_in, bytes_in}
use Rattle.base_rules.specs.Bounds.{most_f, most_l}
use Rattle.base_rules.specs.Bytes.{Bytes, splice}
use Rattle.base_rules.proofs.Logic.{either}
use Rattle.cut_rules.specs.declared.Address.{Address}
use Rattle.packed_rules.specs.Packed.{packed_of, table_from, unpack_fault, unpack_call}
use Rattle.packed_rules.specs.Claims.{Typed, TypedTable}
use Rattle.packed_rules.proofs.Proved.{unpacks, packs, fresh_zeros}
use Rattle.places_rules.specs.Places.{four, free_place, fresh_table, place_at}
use Rattle.places_rules.specs.declared.Table.{Table}
use Rattle.receiver_rules.specs.Promise as promise
use Rattle.receiver_rules.specs.Promise.{State, room_fault, Settled, waits, delivers, damaged}
use Rattle.receiver_rules.specs.Claims.{due_for}
use Rattle.receiver_rules.specs.declared.Received.{Received}
use Rattle.receiver_rules.specs.declared.Received.TheVariants.{Kept, Delivered, Damaged}
use Rattle.receiver_rules.proofs.Proved.{one_reception, one_received, delivery_writes, count_told}
use Rattle.receiver_rules.proofs.Unique.{step-settled, step-refused}
use Rattle.card_rules.specs.Told.{refusal_in, in_widths, told_length, too_short}
use Rattle.card_rules.specs.Receiving.{on_record, receipt_told, receipt_widths, told_after, short_fault}
use Rattle.card_rules.specs.Receiving.{Held, ReceivedWith, RefusedWith, CardReceived, clear_for}
use Rattle.card_rules.specs.Claims.{ZerosFresh, ClearedZeros, OneReceipt, RefusedUnchanged, Shown, handed_out, only_kept, Said, NoSilence, ReceiptWhole}
use Rattle.card_rules.proofs.CountLaws.{missing-few}
use Rattle.card_rules.proofs.RefusalLaws.{Not13, receive_other, unpack_other, short_other}

-- ---- a fresh record

free_typed : Typed free_place
free_typed = record {
  condition = lit< tt;
  number = lit< tt;
  count = lit< tt;
  rsk = lit< tt;
  rsz = lit< tt;
  size = lit< tt;
  last = lit< tt;
  kept = length-replicate most_f false;
}

-- the fields of a fresh table have the bytes of their types
pub fresh_typed : TypedTable fresh_table
unfolding fresh_table place_at
fresh_typed = record {
  places = refl;
  each = λ i l. subst Typed (sym (get_or-replicate four i free_place free_place l)) free_typed;
  oldest = lit< tt;
}

-- a record of all zero bytes is taken as a fresh table
pub zeros_fresh : ZerosFresh
zeros_fresh = ap unpack_call (sym fresh_zeros) ∙ unpacks fresh_table fresh_typed

settled_zeros : (fault : ℕ) (written before : List ℕ) → 0 ≡ refusal_in (answer_in (settled fault [] written before))
    → bytes_in (settled fault [] written before) ≡ written
unfolding settled answer_in bytes_in refusal_in
settled_zeros zero written before e = refl
settled_zeros (suc n) written before e = absurd (omega arith)

-- a call that went on from no refusal had a record
cleared_by : (s : List ℕ) (lent : ℕ) (o : Outcome) → o ≡ clear_for s lent → 0 ≡ refusal_in (answer_in o) → bytes_in o ≡ packed_of fresh_table
unfolding clear_for on_record answer_in refusal_in
cleared_by s lent o is none =
    either (eqb (unpack_fault s) 0)
    (λ z.
    let to : o ≡ settled (room_fault (table_from s) lent most_l) [] (packed_of fresh_table) s = rw z at is in
    ap bytes_in to
    ∙ settled_zeros (room_fault (table_from s) lent most_l) (packed_of fresh_table) s (none ∙ ap (λ (x : Outcome). refusal_in (answer_in x)) to))
    (λ z.
    let to : o ≡ outcome (refused (unpack_fault s)) s = rw z at is in
    absurd (eqb-false (unpack_fault s) 0 z (sym (none ∙ ap (λ (x : Outcome). refusal_in (answer_in x)) to))))

-- a clearing that is not refused leaves a record of all zero bytes
pub cleared_zeros : ClearedZeros
cleared_zeros s after lent cleared = cleared.out ∙ cleared_by s lent (clear_for s lent) refl cleared.number ∙ fresh_zeros

-- ---- a receiving

-- whatever is lent: no record; one, and too few bytes to tell in; or a record and room
cases {ℓ} : {P : Type ℓ} (before : Held) → ((unpack_fault before.record_bytes ≡ 0 → ⊥) → P)
    → (unpack_fault before.record_bytes ≡ 0 → length before.told < told_length receipt_widths → P)
    → (unpack_fault before.record_bytes ≡ 0 → told_length receipt_widths ≤ length before.told → P) → P
cases before none short full =
    either (eqb (unpack_fault before.record_bytes) 0)
    (λ e.
    let good = eqb-true (unpack_fault before.record_bytes) 0 e in
    either (too_short receipt_widths before.told) (λ l. short good (ltb-true _ _ l)) (λ l. full good (ltb-false _ _ l)))
    (λ e. none (eqb-false (unpack_fault before.record_bytes) 0 e))

module _ (own : Option Address) (datagram : List ℕ) (before after : Held) (r : ℕ) (promised : CardReceived own datagram before after r) where
  -- a record and room: `receive` meets its promise
  pub with_record : unpack_fault before.record_bytes ≡ 0 → told_length receipt_widths ≤ length before.told
      → ReceivedWith own datagram before after r (table_from before.record_bytes)
  unfolding CardReceived on_record
  with_record good room =
      rw (eq-eqb (unpack_fault before.record_bytes) 0 good, le-ltb (length before.told) (told_length receipt_widths) room) at promised

  no_told : unpack_fault before.record_bytes ≡ 0 → length before.told < told_length receipt_widths
      → RefusedWith before after r (short_fault (table_from before.record_bytes))
  unfolding CardReceived on_record
  no_told good short =
      rw (eq-eqb (unpack_fault before.record_bytes) 0 good, lt-ltb (length before.told) (told_length receipt_widths) short) at promised

  no_record : (unpack_fault before.record_bytes ≡ 0 → ⊥) → RefusedWith before after r (unpack_fault before.record_bytes)
  unfolding CardReceived on_record
  no_record some = rw (ne_eqb (unpack_fault before.record_bytes) 0 some) at promised

held : List ℕ → List ℕ → List ℕ → List ℕ → Held
held s lent told out = record { record_bytes = s; lent = lent; told = told; out = out }

same_held : (h k : Held) → h.record_bytes ≡ k.record_bytes → h.lent ≡ k.lent → h.told ≡ k.told → h.out ≡ k.out → h ≡ k
unfolding held
same_held h k a b c d =
    ap (λ (x : List ℕ). held x h.lent h.told h.out) a
    ∙ ap (λ (x : List ℕ). held k.record_bytes x h.told h.out) b
    ∙ ap (λ (x : List ℕ). held k.record_bytes k.lent x h.out) c
    ∙ ap (λ (x : List ℕ). held k.record_bytes k.lent k.told x) d

module _ (own : Option Address) (datagram : List ℕ) (before after after' : Held) (r r' : ℕ) (t : Table) where
  one_with : ReceivedWith own datagram before after r t → ReceivedWith own datagram before after' r' t → (after ≡ after') × (r ≡ r')
  unfolding promise.reception
  one_with p q =
      let y : promise.Reception = promise.reception p.answer p.table after.lent after.out in
      let z : promise.Reception = promise.reception q.answer q.table after'.lent after'.out in
      let same : y ≡ z = one_reception own (record { table = t; bytes = before.lent }) datagram before.out y z p.step q.step in
      let answers : p.answer ≡ q.answer = one_received p.answer q.answer (ap (λ (o : promise.Reception). o.answer) same) in (
        same_held after after'
            (p.packed ∙ ap (λ (o : promise.Reception). packed_of o.table) same ∙ sym q.packed)
            (ap (λ (o : promise.Reception). o.bytes) same)
            (p.told ∙ ap (λ (a : Result Received Refusal). told_after a before.told) answers ∙ sym q.told)
            (ap (λ (o : promise.Reception). o.out) same),
        p.number ∙ ap (λ (a : Result Received Refusal). (promise.number_of a).0) answers ∙ sym q.number,
      )

same_refusal : {before after after' : Held} {r r' n : ℕ} → RefusedWith before after r n → RefusedWith before after' r' n → (after ≡ after') × (r ≡ r')
same_refusal p q = (p.1 ∙ sym q.1, p.0 ∙ sym q.0)

-- no second outcome fits a receiving's promise: its number and all that is lent are determined
pub one_receipt : OneReceipt
one_receipt own datagram before after after' r r' p q =
    cases before
    (λ some. same_refusal (no_record own datagram before after r p some) (no_record own datagram before after' r' q some))
    (λ good short. same_refusal (no_told own datagram before after r p good short) (no_told own datagram before after' r' q good short))
    (λ good room.
    one_with own datagram before after after' r r' (table_from before.record_bytes) (with_record own datagram before after r p good room)
    (with_record own datagram before after' r' q good room))

-- what settles is answered with 0 or 13
settles : {t : Table} {i : ℕ} {d : Option ℕ} {b out : List ℕ} {y : promise.Reception} → Settled t i d b out y → (y.answer.0 ≡ 0 → ⊥)
    → (y.answer.0 ≡ 13 → ⊥) → ⊥
unfolding promise.reception promise.number_of
settles (waits e) p q = p refl
settles (delivers P e a) p q = p refl
settles (damaged e a) p q = q refl

-- what carries a value is no number alone
alone : {P : Type 0} {m n x : ℕ} {v : List ℕ} → ◌≡◌ {A = ℕ × List ℕ} (m, x ∷ v) (n, []) → P
alone {m = m} {n} {x} {v} e =
    let none : x ∷ v ≡ [] = ap (λ (p : ℕ × List ℕ). p.1) e in
    let z : ◌≡◌ {A = ℕ} 0 1 = cc in
    absurd (omega arith)

-- an answer of a number alone tells nothing
untold : (a : Result Received Refusal) (before : List ℕ) {n : ℕ} → promise.number_of a ≡ (n, []) → told_after a before ≡ before
unfolding promise.number_of promise.displaced_values told_after
untold (Ok (Kept None)) before e = alone e
untold (Ok (Kept (Some n))) before e = alone e
untold (Ok (Delivered l m d)) before e = alone e
untold (Ok (Damaged None)) before e = alone e
untold (Ok (Damaged (Some n))) before e = alone e
untold (Err e) before is = refl

module _ (own : Option Address) (datagram : List ℕ) (before after : Held) (r : ℕ) (bytes : Bytes before.record_bytes)
    (none : unpack_fault before.record_bytes ≡ 0)
    (p : ReceivedWith own datagram before after r (table_from before.record_bytes)) where
  state : State
  state = record { table = table_from before.record_bytes; bytes = before.lent }

  left : promise.Reception
  left = promise.reception p.answer p.table after.lent after.out

  due : ℕ
  due = due_for own state datagram before.out

  refused_as : left ≡ promise.refused_as due (table_from before.record_bytes) before.lent before.out → after ≡ before
  unfolding promise.reception promise.refused_as left
  refused_as same =
      same_held after before
      (p.packed ∙ ap (λ (o : promise.Reception). packed_of o.table) same ∙ packs before.record_bytes bytes none)
      (ap (λ (o : promise.Reception). o.bytes) same)
      (p.told ∙ untold p.answer before.told (ap (λ (o : promise.Reception). o.answer) same))
      (ap (λ (o : promise.Reception). o.out) same)

  unchanged : (r ≡ 0 → ⊥) → (r ≡ 13 → ⊥) → after ≡ before
  unfolding promise.reception left due state
  unchanged p0 p13 =
      either (eqb due 0)
      (λ e. absurd (settles (step-settled own state datagram before.out (eqb-true due 0 e) p.step) (λ z. p0 (p.number ∙ z))
      (λ z. p13 (p.number ∙ z))))
      (λ e. refused_as (step-refused own state datagram before.out (eqb-false due 0 e) p.step))

-- a receiving answered with neither 0 nor 13 leaves every lent byte as it was, the record too
pub refused_unchanged : RefusedUnchanged
refused_unchanged own datagram before after r bytes p p0 p13 =
    cases before
    (λ some. (no_record own datagram before after r p some).1)
    (λ good short. (no_told own datagram before after r p good short).1)
    (λ good room. unchanged own datagram before after r bytes good (with_record own datagram before after r p good room) p0 p13)

-- ---- what a receiving tells

-- a number other than 0 and 13 is that of a refusal
refusal : {P : Type 0} {r n : ℕ} → r ≡ n → (n ≡ 0 → ⊥) → Not13 n → (r ≡ 0) ⊎ (r ≡ 13) → P
refusal is some other (inl z) = absurd (some (sym is ∙ z))
refusal is some other (inr z) = absurd (other (sym is ∙ z))

module _ (own : Option Address) (datagram : List ℕ) (before after : Held) (r : ℕ) (t : Table) (p : ReceivedWith own datagram before after r t)
    (room : told_length receipt_widths ≤ length before.told) where
  says : (handed l missing : ℕ) (d : Option ℕ) (a : Result Received Refusal) → p.answer ≡ a
      → told_after a before.told ≡ splice before.told 0 (in_widths receipt_widths (receipt_told handed l missing d))
      → Shown before.out after.out handed l → Said before after
  unfolding told_length
  says handed l missing d a is tells shown = record {
    handed = handed;
    l = l;
    missing = missing;
    displaced = d;
    room = omega arith;
    told = p.told ∙ ap (λ (x : Result Received Refusal). told_after x before.told) is ∙ tells;
    shown = shown;
  }

  settled_says : {t : Table} {i : ℕ} {d : Option ℕ} {b : List ℕ} {y : promise.Reception} → Settled t i d b before.out y
      → y ≡ promise.reception p.answer p.table after.lent after.out → Said before after
  unfolding promise.reception told_after
  settled_says {d = d} (waits e) is =
      says 0 0 0 d (Ok (Kept d)) (one_received p.answer (Ok (Kept d)) (sym (ap (λ (o : promise.Reception). o.answer) is))) refl
      (only_kept (sym (ap (λ (o : promise.Reception). o.out) is)))
  settled_says {d = d} (delivers P e a) is =
      says 1 (length P) _ d (Ok (Delivered (length P) _ d))
      (one_received p.answer (Ok (Delivered (length P) _ d)) (sym (ap (λ (o : promise.Reception). o.answer) is)))
      refl
      (handed_out P (sym (ap (λ (o : promise.Reception). o.out) is)))
  settled_says {d = d} (damaged e a) is =
      says 0 0 0 d (Ok (Damaged d)) (one_received p.answer (Ok (Damaged d)) (sym (ap (λ (o : promise.Reception). o.answer) is))) refl
      (only_kept (sym (ap (λ (o : promise.Reception). o.out) is)))

  said : (r ≡ 0) ⊎ (r ≡ 13) → Said before after
  unfolding promise.reception promise.refused_as promise.number_of
  said given =
      let state : State = record { table = t; bytes = before.lent } in
      let due : ℕ = due_for own state datagram before.out in
      either (eqb due 0)
      (λ e. settled_says (step-settled own state datagram before.out (eqb-true due 0 e) p.step) refl)
      (λ e.
      let some = eqb-false due 0 e in
      let is = ap (λ (o : promise.Reception). o.answer.0) (step-refused own state datagram before.out some p.step) in
      refusal (p.number ∙ is) some (receive_other own t (length before.lent) datagram (length before.out)) given)

-- a receiving that gives 0 or 13 had room to tell in and told what it did
pub no_silence : NoSilence
no_silence own datagram before after r p given =
    cases before
    (λ some. refusal (no_record own datagram before after r p some).0 some (unpack_other before.record_bytes) given)
    (λ good short.
    let n = short_other (table_from before.record_bytes) in
    refusal (no_told own datagram before after r p good short).0 n.0 n.1 given)
    (λ good room.
    said own datagram before after r (table_from before.record_bytes) (with_record own datagram before after r p good room) room given)

-- ---- what a delivery tells

-- a delivery tells a length of at most 8,192, and at most 256 fragments not held
pub receipt_whole : ReceiptWhole
unfolding promise.refused_as promise.number_of
receipt_whole own s datagram out y step l m d q =
    let due : ℕ = due_for own s datagram out in (
      (delivery_writes own s datagram out y step l m d q).most,
      either (eqb due 0)
          (λ e. omega (arith, (count_told own s datagram out y step l m d q).0, missing-few own s datagram out (eqb-true due 0 e)))
          (λ e.
          let is = ap (λ (o : promise.Reception). o.answer) (step-refused own s datagram out (eqb-false due 0 e) step) in
          alone (sym q ∙ is)),
    )
