-- What is claimed of the receiver (document 01, "The four places"): the proofs are in proofs/Proved.antt.
use Rattle.std.specs.Prelude.{◌≡◌, List, [], ℕ, ◌≤◌, length, drop, Option, Result, Ok}
use Rattle.base_rules.specs.Bounds.{most_l}
use Rattle.base_rules.specs.Bytes.{splice}
use Rattle.base_rules.specs.declared.Refusal.{Refusal}
use Rattle.cut_rules.specs.declared.Address.{Address}
use Rattle.header_rules.specs.Read.{fields_of}
use Rattle.places_rules.specs.Places.{four, spoiled, place_at}
use Rattle.form_rules.specs.Agree.{missing_in}
use Rattle.receiver_rules.specs.Promise.{number_of, Reception, State, Step, receive_fault, payload_of, Keeping, keep_of, closed_at}
use Rattle.receiver_rules.specs.Calls.{queried_number}
use Rattle.receiver_rules.specs.declared.Received.{Received}
use Rattle.receiver_rules.specs.declared.Received.TheVariants.{Kept, Delivered, Damaged}
use Rattle.receiver_rules.specs.declared.Shown.{Shown}

-- the promise asks nothing impossible: some reception fits it, whatever the record and the inputs, and it has the number and values of an
-- answer that `receive` can give
abbrev pub SomeReception : Type 0
SomeReception =
    (own : Option Address) (s : State) (datagram out : List ℕ)
    → (y : Reception) × Step own s datagram out y × ((a : Result Received Refusal) × (y.answer ≡ number_of a))

-- document 01, "What a promise has to say here": no second reception fits the promise, whatever the record and the inputs
abbrev pub OneReception : Type 0
OneReception = (own : Option Address) (s : State) (datagram out : List ℕ) (y z : Reception) → Step own s datagram out y → Step own s datagram out z → y ≡ z

-- and no second answer of `receive` has the same number and values,
abbrev pub OneReceived : Type 0
OneReceived = (a b : Result Received Refusal) → number_of a ≡ number_of b → a ≡ b

-- nor one of `query`
abbrev pub OneQueried : Type 0
OneQueried = (a b : Result Shown Refusal) → queried_number a ≡ queried_number b → a ≡ b

-- ---- what any reception that fits the promise has left

-- document 01, "A fragment is checked in the order 14, then 1 to 12": the number that is due, 0 where the fragment is kept
abbrev pub due_for : Option Address → State → List ℕ → List ℕ → ℕ
due_for own s datagram out = receive_fault own s.table (length s.bytes) datagram (length out)

-- document 01, "A fragment whose number is held": what keeping the fragment leaves, and in which place
abbrev pub kept_by : State → List ℕ → Keeping
kept_by s datagram = keep_of s.table (fields_of datagram) s.bytes (payload_of datagram)

-- "Every refusal but 13 leaves state and lent bytes untouched"
abbrev pub Refusing : Type 0
Refusing =
    (own : Option Address) (s : State) (datagram out : List ℕ) (y : Reception) → Step own s datagram out y
    → (n : ℕ) → due_for own s datagram out ≡ n → (n ≡ 0 → ⊥)
    → (y.answer ≡ (n, [])) × (y.table ≡ s.table) × (y.bytes ≡ s.bytes) × (y.out ≡ out)

-- "a fragment that is only kept writes none of it"; "13 keeps the fragment, spoils its place, leaves the packet buffer untouched"
abbrev pub Untouched : Type 0
Untouched =
    (own : Option Address) (s : State) (datagram out : List ℕ) (y : Reception) → Step own s datagram out y
    → (d : Option ℕ)
    → (y.answer ≡ number_of (Ok (Kept d)) → y.out ≡ out)
    × (y.answer ≡ number_of (Ok (Damaged d))
    → (y.out ≡ out)
    × (y.bytes ≡ (kept_by s datagram).bytes)
    × (y.table ≡ closed_at (kept_by s datagram).table (kept_by s datagram).at spoiled)
    × (length s.table.places ≡ four → (place_at y.table (kept_by s datagram).at).condition ≡ spoiled))

-- "A delivery writes the first l bytes of that buffer and no others": a packet of l bytes, at most 8,192
pub record Writes (out after : List ℕ) (l : ℕ) : Type 0 where
  pub packet : List ℕ
  pub size : length packet ≡ l
  pub most : l ≤ most_l
  pub written : after ≡ splice out 0 packet
  pub behind : drop l after ≡ drop l out
  pub long : length after ≡ length out

-- document 01: the length that a delivery tells is that of what it writes
abbrev pub DeliveryWrites : Type 0
DeliveryWrites =
    (own : Option Address) (s : State) (datagram out : List ℕ) (y : Reception) → Step own s datagram out y
    → (l m : ℕ) (d : Option ℕ) → y.answer ≡ number_of (Ok (Delivered l m d)) → Writes out y.out l

-- "A false count of missing fragments contradicts the kept set": that of the place when it kept the fragment, and as the record is left
abbrev pub CountTold : Type 0
CountTold =
    (own : Option Address) (s : State) (datagram out : List ℕ) (y : Reception) → Step own s datagram out y
    → (l m : ℕ) (d : Option ℕ) → y.answer ≡ number_of (Ok (Delivered l m d))
    → (m ≡ missing_in (place_at (kept_by s datagram).table (kept_by s datagram).at))
    × (m ≡ missing_in (place_at y.table (kept_by s datagram).at))
