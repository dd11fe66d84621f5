-- What the receiver's calls for C answer: their answers as numbers, and what C holds for them as bytes (document 01, "The four places").
use Rattle.base_rules.specs.declared.Refusal.{Refusal}
use Rattle.std.specs.Prelude.{◌≡◌, true, cond, List, [], ◌∷◌, ◌++◌, ℕ, eqb, Option, Some, None, Result, Ok, Err}
use Rattle.base_rules.specs.Answer.{Answer, granted, refused, answered, Outcome, settled}
use Rattle.base_rules.specs.Answer as answers
use Rattle.base_rules.specs.Bounds.{most_l}
use Rattle.base_rules.specs.Bytes.{splice}
use Rattle.base_rules.specs.Tests.{first}
use Rattle.cut_rules.specs.declared.Address.{Address}
use Rattle.places_rules.specs.declared.Place.{Place}
use Rattle.places_rules.specs.declared.Table.{Table}
use Rattle.places_rules.specs.Places.{free, fresh_table, place_at, key_in}
use Rattle.places_rules.specs.Faults.{bad_table}
use Rattle.packed_rules.specs.Packed.{packed_of, table_from, unpack_fault, unpack_call}
use Rattle.receiver_rules.specs.Promise.{number_of, reception, room_fault, Step}
use Rattle.receiver_rules.specs.declared.Received.{Received}
use Rattle.receiver_rules.specs.declared.Received.TheVariants.{Kept, Delivered, Damaged}
use Rattle.card_rules.specs.Told.{in_widths, too_short}

-- ---- the record in its bytes

-- what is no record is refused, before anything else is looked at, with the number that unpacking gives it, 1 or 14; else the call goes on
-- with the record
unfoldable pub on_record {ℓ} : {A : Type ℓ} → List ℕ → (ℕ → A) → (Table → A) → A
on_record bytes refusal call = cond (eqb (unpack_fault bytes) 0) (call (table_from bytes)) (refusal (unpack_fault bytes))

-- ---- query

-- what is told of a place: its condition, and its packet's number, 0 where it is free
unfoldable pub place_told : Place → List ℕ
place_told p = p.condition ∷ cond (eqb p.condition free) 0 (key_in p) ∷ []

-- that of all four places,
unfoldable pub places_told : Table → List ℕ
places_told t = place_told (place_at t 0) ++ place_told (place_at t 1) ++ place_told (place_at t 2) ++ place_told (place_at t 3)

-- and the bytes that each figure takes
abbrev pub places_widths : List ℕ
places_widths = 1 ∷ 2 ∷ 1 ∷ 2 ∷ 1 ∷ 2 ∷ 1 ∷ 2 ∷ []

-- the query's answer: what is no record is refused; then "query and clearing check 14, then 1"
unfoldable pub query_for : List ℕ → ℕ → Answer
query_for bytes lent = on_record bytes refused (λ t. answered (room_fault t lent most_l) (places_told t))

-- ---- clear

-- the clearing's answer, and the record's bytes after it: refused as a query is, else a fresh record
unfoldable pub clear_for : List ℕ → ℕ → Outcome
clear_for bytes lent = on_record bytes (λ n. answers.outcome (refused n) bytes) (λ t. settled (room_fault t lent most_l) [] (packed_of fresh_table) bytes)

-- ---- receive

-- the displaced number: 1 and it, or zeros
unfoldable pub displaced_told : Option ℕ → List ℕ
displaced_told None = 0 ∷ 0 ∷ []
displaced_told (Some n) = 1 ∷ n ∷ []

-- what an answer tells: 1 where a packet was handed out, its length, the count of fragments not held, the displaced number;
unfoldable pub receipt_told : ℕ → ℕ → ℕ → Option ℕ → List ℕ
receipt_told handed length missing d = handed ∷ length ∷ missing ∷ displaced_told d

-- in these widths
abbrev pub receipt_widths : List ℕ
receipt_widths = 1 ∷ 2 ∷ 2 ∷ 1 ∷ 2 ∷ []

-- what stands afterwards in the bytes lent for what is told: that of the answer, at the front; a refused datagram tells nothing
unfoldable pub told_after : Result Received Refusal → List ℕ → List ℕ
told_after (Ok (Kept d)) before = splice before 0 (in_widths receipt_widths (receipt_told 0 0 0 d))
told_after (Ok (Delivered length missing d)) before = splice before 0 (in_widths receipt_widths (receipt_told 1 length missing d))
told_after (Ok (Damaged d)) before = splice before 0 (in_widths receipt_widths (receipt_told 0 0 0 d))
told_after (Err e) before = before

-- "A fragment is checked in the order 14, then 1": the number where `told` is too short
unfoldable pub short_fault : Table → ℕ
short_fault t = first ((bad_table t, 14) ∷ (true, 1) ∷ [])

-- what C lends and gets back: the packed record, the lent bytes, the bytes told, the packet buffer
pub record Held : Type 0 where
  pub record_bytes : List ℕ
  pub lent : List ℕ
  pub told : List ℕ
  pub out : List ℕ

-- with the record t `receive` meets its promise; the record that it leaves is packed, its answer is told, and r is the answer's number
pub record ReceivedWith (own : Option Address) (datagram : List ℕ) (before after : Held) (r : ℕ) (t : Table) : Type 0 where
  pub answer : Result Received Refusal
  pub table : Table
  pub step : Step own (record { table = t; bytes = before.lent }) datagram before.out (reception answer table after.lent after.out)
  pub packed : after.record_bytes ≡ packed_of table
  -- card.h, "Both are as the last call left them": the next call reads that record back
  pub read_back : unpack_call after.record_bytes ≡ (granted [], table)
  pub told : after.told ≡ told_after answer before.told
  pub number : r ≡ (number_of answer).0

-- a refusal with the number n: it is given back, and nothing is changed
abbrev pub RefusedWith : Held → Held → ℕ → ℕ → Type 0
RefusedWith before after r n = (r ≡ n) × (after ≡ before)

-- the call was answered with the number r: what is no record is refused, then a `told` that is too short; else as above with the record
unfoldable pub CardReceived : Option Address → List ℕ → Held → Held → ℕ → Type 0
CardReceived own datagram before after r =
    on_record before.record_bytes (RefusedWith before after r)
    (λ t. cond (too_short receipt_widths before.told) (RefusedWith before after r (short_fault t)) (ReceivedWith own datagram before after r t))
