-- What an reception that fits the promise of `receive` has left, by its answer. Assumes nothing.
use mathlib.Core.Path.{◌≡◌, refl, sym, ap, ◌∙◌, subst}
use mathlib.Core.Bool.{false}
use mathlib.Core.List.{List, []}
use Prim.Native.Nat.{ℕ, ◌≤◌, ◌<◌}
use native.Mathlib.Nat.{zero-add}
use native.Mathlib.Omega.{arith}
use borrow.Author.Tests.{eqb-true, eqb-false, ltb-true}
use lib.Dec.{ltb, eqb}
use lib.ListN.{length, length-set}
use Rattle.base_rules.specs.Bounds.{most_l}
use Rattle.base_rules.specs.Bytes.{splice}
use Rattle.base_rules.proofs.Logic.{either}
use Rattle.base_rules.proofs.Splice.{splice-length, splice_behind}
use Rattle.std.specs.Prelude.{Option, Some, None, Result, Ok, Err}
use Rattle.base_rules.specs.declared.Refusal.{Refusal}
use Rattle.cut_rules.specs.declared.Address.{Address}
use Rattle.af_rules.proofs.Proved.{a3}
use Rattle.header_rules.specs.declared.Header.{Header}
use Rattle.header_rules.specs.Read.{fields_of}
use Rattle.places_rules.specs.declared.Place.{Place}
use Rattle.places_rules.specs.declared.Table.{Table}
use Rattle.places_rules.specs.Places.{four, delivered, spoiled, place_at, with_place, key_of, held_at, turned, in_condition}
use Rattle.places_rules.specs.Faults.{bad_table}
use Rattle.places_rules.proofs.Records.{place_past}
use Rattle.form_rules.specs.Agree.{missing_in}
use Rattle.receiver_rules.specs.declared.Received.{Received}
use Rattle.receiver_rules.specs.declared.Received.TheVariants.{Kept, Delivered, Damaged}
use Rattle.receiver_rules.specs.Promise.{number_of, displaced_values, Reception, reception, refused_as, State, keep_at, keep_of, closed_at, Settled, waits, delivers, damaged, Step}
use Rattle.receiver_rules.specs.Promise.{payload_of}
use Rattle.receiver_rules.specs.Claims.{due_for, kept_by, Writes}
use Rattle.receiver_rules.proofs.Ranges.{fine_table, fine_room, opens_below, written_place}
use Rattle.receiver_rules.proofs.Unique.{received_one, room_passed, written_or_free, step-settled, step-refused}

-- ---- where a fragment is kept

module _ (t : Table) (h : Header) (b payload : List ℕ) where
  -- it is one of the four places,
  keeps_below : bad_table t ≡ false → (keep_of t h b payload).at < four
  unfolding keep_of keep_at
  keeps_below fine =
      either (ltb (held_at t (key_of h)) four) (λ e. rw e (ltb-true (held_at t (key_of h)) four e)) (λ e. rw e (opens_below t fine))

  -- and the record has as many as before
  pub keeps-length : length (keep_of t h b payload).table.places ≡ length t.places
  unfolding keep_of keep_at with_place turned
  keeps-length =
      either (ltb (held_at t (key_of h)) four) (λ e. rw e (length-set t.places _ _)) (λ e. rw e (length-set t.places _ _))

-- ---- by the answer

-- what is left where a fragment was kept in place i of t
abbrev Left : Table → ℕ → List ℕ → List ℕ → Reception → Result Received Refusal → Type 0
Left t i b out y (Ok (Kept d)) = y.out ≡ out
Left t i b out y (Ok (Delivered l m d)) = Writes out y.out l × (m ≡ missing_in (place_at t i)) × (m ≡ missing_in (place_at y.table i))
Left t i b out y (Ok (Damaged d)) =
    (y.out ≡ out) × (y.bytes ≡ b) × (y.table ≡ closed_at t i spoiled)
    × (length t.places ≡ four → (place_at y.table i).condition ≡ spoiled)
Left t i b out y (Err e) = Unit {0}

-- a packet within the bounds, in a buffer that has room for any
writes : (out P : List ℕ) → most_l ≤ length out → length P ≤ most_l → Writes out (splice out 0 P) (length P)
writes out P room most =
    record {
      packet = P;
      size = refl;
      most = most;
      written = refl;
      behind = rw zero-add at (splice_behind out 0 P (omega arith));
      long = splice-length out 0 P (omega arith);
    }

module _ (t : Table) (i : ℕ) where
  -- closing a place does not change what it holds
  closed-missing : (condition : ℕ) → missing_in (place_at t i) ≡ missing_in (place_at (closed_at t i condition) i)
  unfolding closed_at in_condition missing_in
  closed-missing condition =
      written_or_free t i (in_condition (place_at t i) condition) (λ (p : Place). missing_in (place_at t i) ≡ missing_in p)
      refl (λ past. ap missing_in (sym (place_past t i past refl)))

  closed_condition : i < four → length t.places ≡ four → (condition : ℕ) → (place_at (closed_at t i condition) i).condition ≡ condition
  unfolding closed_at in_condition
  closed_condition below size condition = ap (λ (p : Place). p.condition) (written_place t i (in_condition (place_at t i) condition) size below)

module _ {t : Table} {i : ℕ} {d : Option ℕ} {b out : List ℕ} (below : i < four) (room : most_l ≤ length out) where
  settled_left : {y : Reception} → Settled t i d b out y → (a : Result Received Refusal) → y.answer ≡ number_of a → Left t i b out y a
  unfolding reception
  settled_left (waits e) a q = subst (Left t i b out (reception (Ok (Kept d)) t b out)) (received_one (Ok (Kept d)) a q) refl
  settled_left (delivers P e agrees) a q =
      subst (Left t i b out (reception (Ok (Delivered (length P) (missing_in (place_at t i)) d)) (closed_at t i delivered) b (splice out 0 P)))
      (received_one (Ok (Delivered (length P) (missing_in (place_at t i)) d)) a q)
      (writes out P room (a3 P agrees.accepted).1, refl, closed-missing t i delivered)
  settled_left (damaged e none) a q =
      subst (Left t i b out (reception (Ok (Damaged d)) (closed_at t i spoiled) b out)) (received_one (Ok (Damaged d)) a q) (refl, refl, refl, λ size. closed_condition t i below size spoiled)

-- an answer that is no refusal has values, so what a refusal leaves is all that is to show
refused_left : (t : Table) (i : ℕ) (b out : List ℕ) (y : Reception) (n : ℕ) (a : Result Received Refusal) → (n, []) ≡ number_of a → Left t i b out y a
unfolding number_of displaced_values
refused_left t i b out y n (Ok (Kept None)) q = absurd (omega (arith, ap (λ (x : ℕ × List ℕ). length x.1) q))
refused_left t i b out y n (Ok (Kept (Some k))) q = absurd (omega (arith, ap (λ (x : ℕ × List ℕ). length x.1) q))
refused_left t i b out y n (Ok (Delivered l m d)) q = absurd (omega (arith, ap (λ (x : ℕ × List ℕ). length x.1) q))
refused_left t i b out y n (Ok (Damaged None)) q = absurd (omega (arith, ap (λ (x : ℕ × List ℕ). length x.1) q))
refused_left t i b out y n (Ok (Damaged (Some k))) q = absurd (omega (arith, ap (λ (x : ℕ × List ℕ). length x.1) q))
refused_left t i b out y n (Err e) q = tt

module _ (own : Option Address) (s : State) (datagram out : List ℕ) (y : Reception) (step : Step own s datagram out y) where
  -- where a number is due it is the answer, alone, and record, lent bytes and packet buffer stay
  pub refusing : (n : ℕ) → due_for own s datagram out ≡ n → (n ≡ 0 → ⊥)
      → (y.answer ≡ (n, [])) × (y.table ≡ s.table) × (y.bytes ≡ s.bytes) × (y.out ≡ out)
  unfolding refused_as
  refusing n e some =
      let q = step-refused own s datagram out (λ z. some (sym e ∙ z)) step in (
        ap (λ (o : Reception). o.answer) q ∙ ap (λ (x : ℕ). (x, [])) e,
        ap (λ (o : Reception). o.table) q,
        ap (λ (o : Reception). o.bytes) q,
        ap (λ (o : Reception). o.out) q,
      )

  -- by the answer: kept leaves the packet buffer, delivered writes a packet there, 13 spoils the place
  pub left_by : (a : Result Received Refusal) → y.answer ≡ number_of a → Left (kept_by s datagram).table (kept_by s datagram).at (kept_by s datagram).bytes out y a
  unfolding refused_as
  left_by a q =
      let due : ℕ = due_for own s datagram out in
      either (eqb due 0)
      (λ e.
      let none : due ≡ 0 = eqb-true due 0 e in
      let passed = room_passed own s.table (length s.bytes) datagram (length out) none in
      settled_left
      (keeps_below s.table (fields_of datagram) s.bytes (payload_of datagram) (fine_table s.table (length s.bytes) (length out) passed))
      (fine_room s.table (length s.bytes) (length out) passed).1
      (step-settled own s datagram out none step) a q)
      (λ e.
      let is = ap (λ (o : Reception). o.answer) (step-refused own s datagram out (eqb-false due 0 e) step) in
      refused_left (kept_by s datagram).table (kept_by s datagram).at (kept_by s datagram).bytes out y due a (sym is ∙ q))
