-- Runs of the receiver, and what came in them, as demand 3 speaks of them. A run's step is what `receive` promises, `Step`, by name.
use Rattle.std.specs.Prelude.{◌≡◌, Bool, false, not, ◌||◌, ◌&&◌, List, [], ◌∷◌, ◌++◌, map, ℕ, ◌≤◌, ◌<◌, eqb, length, Option}
use Rattle.base_rules.specs.Answer.{granted}
use Rattle.base_rules.specs.Bounds.{most_l}
use Rattle.base_rules.specs.Bytes.{Bytes}
use Rattle.cut_rules.specs.declared.Address.{Address}
use Rattle.header_rules.specs.Read.{fields_of, fault_of}
use Rattle.places_rules.specs.Places.{four, open_now, fresh_table, place_at, key_of, held_at, all_places}
use Rattle.receiver_rules.specs.Promise.{Reception, State, Step}
use Rattle.receiver_rules.specs.Calls.{shown_of, query_call}

-- a call: the configured address, the datagram, the packet buffer that is lent, and what the call left
pub record Call : Type 0 where
  pub own : Option Address
  pub datagram : List ℕ
  pub lent : List ℕ
  pub left : Reception

-- the state that a call leaves to the next one
abbrev pub after : Call → State
after e = record { table = e.left.table; bytes = e.left.bytes }

-- demand 3: the call "lends full room" and is made in the state s; a datagram is bytes
pub record Made (s : State) (e : Call) : Type 0 where
  pub room : most_l ≤ length e.lent
  pub bytes : Bytes e.datagram
  pub meets : Step e.own s e.datagram e.lent e.left

-- calls from the state s on, THE LAST ONE FIRST: each gets "the table as the last call left it"
pub data Run (s : State) : List Call → State → Type 0 where
  start : Run s [] s
  next : {es : List Call} {u : State} (e : Call) → Run s es u → Made u e → Run s (e ∷ es) (after e)

-- demand 3: "fresh before the first", with any 49,152 lent bytes
abbrev pub fresh_with : List ℕ → State
fresh_with b = record { table = fresh_table; bytes = b }

-- a state that calls have left; nobody cleared the table, or it was cleared and is fresh again
pub record Reached (s : State) : Type 0 where
  pub lent : List ℕ
  pub all : length lent ≡ all_places
  pub calls : List Call
  pub run : Run (fresh_with lent) calls s

-- demand 3: the number n "is held"
abbrev pub Holds : State → ℕ → Type 0
Holds s n = held_at s.table n < four

-- demand 3: "the number shows as open": the query is not refused, and shows it in one of the four places
pub record ShownOpen (s : State) (n : ℕ) : Type 0 where
  pub answered : query_call s.table (length s.bytes) ≡ granted (shown_of (place_at s.table 0) ++ shown_of (place_at s.table 1)
      ++ shown_of (place_at s.table 2) ++ shown_of (place_at s.table 3))
  pub at : ℕ
  pub below : at < four
  pub shown : shown_of (place_at s.table at) ≡ open_now ∷ n ∷ []

-- ---- there are runs

-- what a call is handed
pub record Input : Type 0 where
  pub own : Option Address
  pub datagram : List ℕ
  pub lent : List ℕ

-- that of a call
abbrev pub input_of : Call → Input
input_of e = record { own = e.own; datagram = e.datagram; lent = e.lent }

-- demand 3: each call "lends full room", and a datagram is bytes
unfoldable pub Lawful : List Input → Type 0
Lawful [] = Unit {0}
Lawful (i ∷ is) = (most_l ≤ length i.lent) × Bytes i.datagram × Lawful is

-- from any state and for any such inputs, the last one first, there are calls of a run with just these inputs
abbrev pub SomeRun : Type 0
SomeRun = (s : State) (inputs : List Input) → Lawful inputs → (es : List Call) × (now : State) × (map input_of es ≡ inputs) × Run s es now

-- ---- what came

-- the call's datagram passes the checks 2 to 8 (14 and 1 are passed by a call of a run)
abbrev pub heard : Call → Bool
heard e = eqb (fault_of e.own e.datagram) 0

-- its number
abbrev pub number_in : Call → ℕ
number_in e = key_of (fields_of e.datagram)

-- and its index
abbrev pub index_in : Call → ℕ
index_in e = (fields_of e.datagram).index

-- fragment i of number n came in these calls
unfoldable pub come : ℕ → List Call → ℕ → Bool
come n [] i = false
come n (e ∷ es) i = (heard e && (eqb (number_in e) n && eqb (index_in e) i)) || come n es i

-- and it did not
abbrev pub lost : ℕ → List Call → ℕ → Bool
lost n es i = not (come n es i)

-- ---- of every call

-- of all of a list,
unfoldable pub All : {A : Type 0} → (A → Type 0) → List A → Type 0
All P [] = Unit {0}
All P (e ∷ es) = P e × All P es

-- and of each with those before it
unfoldable pub Each : {A : Type 0} → (List A → A → Type 0) → List A → Type 0
Each P [] = Unit {0}
Each P (e ∷ es) = P es e × Each P es
