-- The promise of `receive` (document 01, "The four places" and "Numbers given back"): what a call answers and leaves, for every record,
-- configuration, datagram and buffer. A relation where a packet is formed, since the paper says which packet and not how it is found;
-- equations everywhere else.
use Rattle.std.specs.Prelude.{◌≡◌, Bool, true, false, not, cond, ◌||◌, List, [], ◌∷◌, ℕ, ◌+◌, ◌*◌, ltb, eqb, length, drop, Option, Some, None, Result, Ok, Err}
use Rattle.base_rules.specs.Bounds.{most_l, place}
use Rattle.base_rules.specs.Refusal as refusals
use Rattle.base_rules.specs.declared.Refusal.{Refusal}
use Rattle.base_rules.specs.Tests.{first}
use Rattle.base_rules.specs.Bytes.{splice}
use Rattle.cut_rules.specs.declared.Address.{Address}
use Rattle.header_rules.specs.declared.Header.{Header}
use Rattle.header_rules.specs.Read.{fields_of, length_of, fault_of}
use Rattle.places_rules.specs.declared.Place.{Place}
use Rattle.places_rules.specs.declared.Table.{Table}
use Rattle.places_rules.specs.Places.{four, delivered, spoiled, place_at, with_place, key_of, held_at, open_at, displaced_at, turned, opened_by, offset_of}
use Rattle.places_rules.specs.Places.{all_places, kept_in, in_condition}
use Rattle.places_rules.specs.Faults.{bad_table, place_fault}
use Rattle.form_rules.specs.Agree.{enough_in, missing_in, Agrees}
use Rattle.receiver_rules.specs.declared.Received.{Received}
use Rattle.receiver_rules.specs.declared.Received.TheVariants.{Kept, Delivered, Damaged}

-- ---- answers

-- a displaced number: how many, none or one, and which
unfoldable pub displaced_values : Option ℕ → List ℕ
displaced_values None = 0 ∷ []
displaced_values (Some n) = 1 ∷ n ∷ []

-- document 01's number for each case, 0 where nothing is refused, and the values that the answer carries
unfoldable pub number_of : Result Received Refusal → ℕ × List ℕ
number_of (Ok (Kept d)) = (0, displaced_values d)
number_of (Ok (Delivered length missing d)) = (0, length ∷ missing ∷ displaced_values d)
number_of (Ok (Damaged d)) = (13, displaced_values d)
number_of (Err e) = (refusals.number e, [])

-- a reception is what a call of `receive` leaves: its answer, the record, the 49,152 lent bytes and the packet buffer
pub record Reception : Type 0 where
  pub answer : ℕ × List ℕ
  pub table : Table
  pub bytes : List ℕ
  pub out : List ℕ

-- the reception with this answer
unfoldable pub reception : Result Received Refusal → Table → List ℕ → List ℕ → Reception
reception a t b o = record { answer = number_of a; table = t; bytes = b; out = o }

-- the reception that is refused with the number n
unfoldable pub refused_as : ℕ → Table → List ℕ → List ℕ → Reception
refused_as n t b o = record { answer = (n, []); table = t; bytes = b; out = o }

-- ---- refusals

-- 1 ROOM: table not 49,152; packet out under 8,192
unfoldable pub bad_room : ℕ → ℕ → Bool
bad_room lent room = not (eqb lent all_places) || ltb room most_l

-- "14, then 1": before a datagram is looked at
unfoldable pub room_fault : Table → ℕ → ℕ → ℕ
room_fault t lent room = first ((bad_table t, 14) ∷ (bad_room lent room, 1) ∷ [])

-- what the place that holds a fragment's number says of it: 9 to 12, and 0 where none does
unfoldable pub held_fault : Table → Header → ℕ
held_fault t h = cond (ltb (held_at t (key_of h)) four) (place_fault (place_at t (held_at t (key_of h))) h) 0

-- "A fragment is checked in the order 14, then 1 to 12"
unfoldable pub receive_fault : Option Address → Table → ℕ → List ℕ → ℕ → ℕ
receive_fault own t lent datagram room =
    first
    ((not (eqb (room_fault t lent room) 0), room_fault t lent room)
    ∷ (not (eqb (fault_of own datagram) 0), fault_of own datagram)
    ∷ (not (eqb (held_fault t (fields_of datagram)) 0), held_fault t (fields_of datagram))
    ∷ [])

-- ---- keeping

-- clause 7.1: the payload of a datagram
unfoldable pub payload_of : List ℕ → List ℕ
payload_of datagram = drop (length_of datagram) datagram

-- what keeping a fragment leaves, before it is seen whether a packet can be formed: the record, the place, the displaced number, the lent bytes
pub record Keeping : Type 0 where
  pub table : Table
  pub at : ℕ
  pub displaced : Option ℕ
  pub bytes : List ℕ

-- the fragment with header h is kept in place i, which was p
unfoldable pub keep_at : Table → ℕ → Place → Option ℕ → Header → List ℕ → List ℕ → Keeping
keep_at t i p d h b payload = record {
  table = with_place t i (kept_in p h);
  at = i;
  displaced = d;
  bytes = splice b (i * place + offset_of h) payload;
}

-- document 01: "A fragment whose number is held goes to that place. Otherwise it opens the first free place, or displaces the place opened
-- longest ago"
unfoldable pub keep_of : Table → Header → List ℕ → List ℕ → Keeping
keep_of t h b payload =
    cond (ltb (held_at t (key_of h)) four)
    (keep_at t (held_at t (key_of h)) (place_at t (held_at t (key_of h))) None h b payload)
    (keep_at (turned t (open_at t)) (open_at t) (opened_by h) (displaced_at t (open_at t)) h b payload)

-- ---- forming

-- the table with place i in another condition
unfoldable pub closed_at : Table → ℕ → ℕ → Table
closed_at t i condition = with_place t i (in_condition (place_at t i) condition)

-- the bytes of place i: the lent bytes from there on, of which the first 12,288 are looked at
unfoldable pub bytes_at : List ℕ → ℕ → List ℕ
bytes_at b i = drop (i * place) b

-- document 01: after a fragment was kept in a place. While its fragments do not suffice nothing more happens. When they do: a packet that
-- agrees is handed out, at the front of out; where none agrees the place is spoiled, and out stays as it is
pub data Settled (t : Table) (i : ℕ) (d : Option ℕ) (b out : List ℕ) : Reception → Type 0 where
  waits : enough_in (place_at t i) ≡ false → Settled t i d b out (reception (Ok (Kept d)) t b out)
  delivers : (P : List ℕ) → enough_in (place_at t i) ≡ true → Agrees (place_at t i) (bytes_at b i) P
      → Settled t i d b out (reception (Ok (Delivered (length P) (missing_in (place_at t i)) d)) (closed_at t i delivered) b (splice out 0 P))
  damaged : enough_in (place_at t i) ≡ true → ((P : List ℕ) → Agrees (place_at t i) (bytes_at b i) P → ⊥)
      → Settled t i d b out (reception (Ok (Damaged d)) (closed_at t i spoiled) b out)

-- the same of what keeping left
abbrev pub SettledAfter : Keeping → List ℕ → Reception → Type 0
SettledAfter k out y = Settled k.table k.at k.displaced k.bytes out y

-- ---- the promise

-- the record and the lent bytes between two calls
pub record State : Type 0 where
  pub table : Table
  pub bytes : List ℕ

-- "Every refusal but 13 leaves state and lent bytes untouched"; else the fragment is kept, and it settles as above
unfoldable pub Step : Option Address → State → List ℕ → List ℕ → Reception → Type 0
Step own s datagram out y =
    cond (eqb (receive_fault own s.table (length s.bytes) datagram (length out)) 0)
    (SettledAfter (keep_of s.table (fields_of datagram) s.bytes (payload_of datagram)) out y)
    (y ≡ refused_as (receive_fault own s.table (length s.bytes) datagram (length out)) s.table s.bytes out)
