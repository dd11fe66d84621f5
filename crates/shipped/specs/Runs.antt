-- The calls of card.h as runs. A run's step is what `bailhammer_receive` promises, `CardReceived`, by name.
use Rattle.std.specs.Prelude.{◌≡◌, cond, List, [], ◌∷◌, ◌++◌, map, ℕ, ◌+◌, ◌*◌, ◌≤◌, ◌<◌, eqb, length, get_or, replicate}
use Rattle.base_rules.specs.Bounds.{most_l}
use Rattle.base_rules.specs.Bytes.{Bytes, splice, number_at}
use Rattle.packed_rules.specs.Packed.{table-bytes, table_from}
use Rattle.places_rules.specs.Places.{four, free, open_now, all_places}
use Rattle.receiver_rules.specs.Promise.{State}
use Rattle.card_rules.specs.Told.{in_widths, CardTold}
use Rattle.card_rules.specs.Calls.{address_of}
use Rattle.card_rules.specs.Receiving.{places_told, places_widths, query_for, Held, CardReceived}
use Rattle.link.specs.Run as link

-- ---- calls

-- card.h, "What its four places hold is the caller's between the calls": the bytes of their record, and those lent to them
pub record Buffers : Type 0 where
  pub table : List ℕ
  pub lent : List ℕ

-- a call of bailhammer_receive: address, datagram, `told` and `out` as they are lent, what it left in all four buffers, the number it gave
pub record Call : Type 0 where
  pub addressed : ℕ
  pub source : ℕ
  pub dest : ℕ
  pub datagram : List ℕ
  pub told : List ℕ
  pub out : List ℕ
  pub left : Held
  pub given : ℕ

-- the buffers that a call leaves to the next one
abbrev pub after : Call → Buffers
after e = record { table = e.left.record_bytes; lent = e.left.lent }

-- card.h, bailhammer_receive: "Tells 8 bytes"
abbrev pub receipt_bytes : ℕ
receipt_bytes = 8

-- demand 3: the call "lends full room" and is made with the buffers s; a datagram is bytes
pub record Made (s : Buffers) (e : Call) : Type 0 where
  pub room : most_l ≤ length e.out
  pub told_room : receipt_bytes ≤ length e.told
  pub bytes : Bytes e.datagram
  pub meets : CardReceived (address_of e.addressed e.source e.dest) e.datagram
      (record { record_bytes = s.table; lent = s.lent; told = e.told; out = e.out })
      e.left e.given

-- ---- runs

-- calls from the buffers s on, THE LAST ONE FIRST: "Both are as the last call left them"
pub data Run (s : Buffers) : List Call → Buffers → Type 0 where
  start : Run s [] s
  next : {es : List Call} {u : Buffers} (e : Call) → Run s es u → Made u e → Run s (e ∷ es) (after e)

-- card.h: a table "of 1,081 bytes, all zeros for a fresh one, and lent their bytes, 49,152, which may be any at first"
abbrev pub fresh_with : List ℕ → Buffers
fresh_with lent = record { table = replicate table-bytes 0; lent = lent }

-- buffers that calls have left; nobody cleared the table, or it was cleared and is fresh again
pub record Reached (s : Buffers) : Type 0 where
  pub lent : List ℕ
  pub all : length lent ≡ all_places
  pub calls : List Call
  pub run : Run (fresh_with lent) calls s

-- ---- what the caller reads of a call

-- card.h: 1 and the number of the packet that lost its place, or zeros: none
unfoldable pub displaced_from : List ℕ → List ℕ
displaced_from told = cond (eqb (get_or told 5 0) 0) (0 ∷ []) (1 ∷ number_at 2 told 6 ∷ [])

-- card.h: 1 where a packet was handed out, its length, and how many of its fragments are not held
unfoldable pub handed_from : List ℕ → List ℕ
handed_from told = cond (eqb (get_or told 0 0) 0) [] (number_at 2 told 1 ∷ number_at 2 told 3 ∷ [])

-- the answer: the number given, and what is told with 0 and with 13; any other number tells nothing
unfoldable pub answer_from : ℕ → List ℕ → ℕ × List ℕ
answer_from given told = (
  given,
  cond (eqb given 0) (handed_from told ++ displaced_from told) (cond (eqb given 13) (displaced_from told) []),
)

-- the record and the lent bytes, as `receive` has them
abbrev pub state_of : Buffers → State
state_of s = record { table = table_from s.table; bytes = s.lent }

-- the call, as one of `receive`
abbrev pub call_of : Call → link.Call
call_of e = record {
  own = address_of e.addressed e.source e.dest;
  datagram = e.datagram;
  lent = e.out;
  left = record {
    answer = answer_from e.given e.left.told;
    table = table_from e.left.record_bytes;
    bytes = e.left.lent;
    out = e.left.out;
  };
}

-- ---- what the caller reads of a query

-- card.h, bailhammer_query: "Tells 12 bytes"
abbrev pub query_bytes : ℕ
query_bytes = 12

-- what it tells of the record in the buffers
unfoldable pub queried : Buffers → List ℕ
queried s = in_widths places_widths (places_told (table_from s.table))

-- card.h, "three for each place": its condition (1)
abbrev pub condition_told : Buffers → ℕ → ℕ
condition_told s i = get_or (queried s) (3 * i) 0

-- "and its packet's number" (2)
abbrev pub number_told : Buffers → ℕ → ℕ
number_told s i = number_at 2 (queried s) (3 * i + 1)

-- demand 3: the number "shows as" open, or in another condition, in one of the four places
pub record ShownAs (condition : ℕ) (s : Buffers) (n : ℕ) : Type 0 where
  pub at : ℕ
  pub below : at < four
  pub shown : condition_told s at ≡ condition
  pub number : number_told s at ≡ n

-- demand 3: the number n "is held": it shows in another condition than that of a free place
abbrev pub Holds : Buffers → ℕ → Type 0
Holds s n = (condition : ℕ) × (condition ≡ free → ⊥) × ShownAs condition s n

-- ---- what is claimed; the proofs are cited in proofs/Proved.antt

-- every run of bailhammer_receive is one of `receive`, with the same datagrams, answers and bytes: from the fresh buffers
abbrev pub IsRun : Type 0
IsRun =
    (lent : List ℕ) → length lent ≡ all_places → (es : List Call) (now : Buffers) → Run (fresh_with lent) es now
    → link.Run (link.fresh_with lent) (map call_of es) (state_of now)

-- and from those that such a run left,
abbrev pub GoesOn : Type 0
GoesOn =
    (first : Buffers) → Reached first → (es : List Call) (now : Buffers) → Run first es now
    → link.Run (state_of first) (map call_of es) (state_of now)

-- which are the bytes of a reached state
abbrev pub ReachedState : Type 0
ReachedState = (s : Buffers) → Reached s → link.Reached (state_of s)

-- in reached buffers bailhammer_query gives 0 and tells its 12 bytes, where there are as many
abbrev pub QueryTells : Type 0
QueryTells =
    (s : Buffers) → Reached s → (told told_afterwards : List ℕ) (r : ℕ) → query_bytes ≤ length told
    → CardTold places_widths (query_for s.table (length s.lent)) told told_afterwards r
    → (r ≡ 0) × (told_afterwards ≡ splice told 0 (queried s))

-- a number is held, by what a query tells, where the state holds it and nowhere else
abbrev pub HoldsAlike : Type 0
HoldsAlike = (s : Buffers) → Reached s → (n : ℕ) → (Holds s n → link.Holds (state_of s) n) × (link.Holds (state_of s) n → Holds s n)

-- a number that the state shows as open is told as open
abbrev pub OpenTold : Type 0
OpenTold = (s : Buffers) → Reached s → (n : ℕ) → link.ShownOpen (state_of s) n → ShownAs open_now s n

-- and there are runs: from reached buffers there is a call with any inputs that lend full room
abbrev pub SomeCall : Type 0
SomeCall =
    (s : Buffers) → Reached s → (addressed source dest : ℕ) (datagram told out : List ℕ)
    → most_l ≤ length out → receipt_bytes ≤ length told → Bytes datagram → (left : Held) × (given : ℕ) × Made s (record {
      addressed = addressed;
      source = source;
      dest = dest;
      datagram = datagram;
      told = told;
      out = out;
      left = left;
      given = given;
    })
