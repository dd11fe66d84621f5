-- What every reached state is: the invariants of the receiver's runs (document 01, "The four places"). Each is proved in proofs/Proved.antt.
use Rattle.std.specs.Prelude.{◌≡◌, true, false, not, cond, ◌&&◌, List, ◌∷◌, ℕ, ◌+◌, ◌-◌, ◌*◌, ◌≤◌, ◌<◌, leb, length, get_or, take, drop}
use Rattle.base_rules.specs.Bounds.{place}
use Rattle.base_rules.specs.Bytes.{part_of}
use Rattle.header_rules.specs.Read.{fields_of}
use Rattle.places_rules.specs.declared.Place.{Place}
use Rattle.places_rules.specs.Places.{four, free, open_now, delivered, spoiled, place_at, holds, open_at, offset_of, all_places}
use Rattle.places_rules.specs.Faults.{bad_table}
use Rattle.places_rules.specs.Claims.{Opened}
use Rattle.form_rules.specs.Agree.{enough_in}
use Rattle.receiver_rules.specs.Promise.{State, payload_of, bytes_at}
use Rattle.link.specs.Run.{Call, Made, Reached, Holds, heard, number_in, index_in}

-- document 01, 14 and 1: the record is in range and the lent bytes are all there, so no call of a run is refused for its state
abbrev pub StaysInRange : Type 0
StaysInRange = (s : State) → Reached s → (bad_table s.table ≡ false) × (length s.bytes ≡ all_places)

-- document 01, "the place opened longest ago": opening goes round, and the m-th goes to place m mod 4
abbrev pub GoesRound : Type 0
GoesRound = (s : State) → Reached s → (m : ℕ) × Opened m s.table

-- document 01, "A fragment whose number is held goes to that place": no number is held in two places
abbrev pub HeldOnce : Type 0
HeldOnce =
    (s : State) → Reached s → (i j n : ℕ) → i < four → j < four → holds (place_at s.table i) n ≡ true → holds (place_at s.table j) n ≡ true
    → i ≡ j

-- document 01: a fragment has its own bytes of the place: those before the last, of s bytes each, end before it begins, at the place's end
abbrev pub PartsApart : Type 0
PartsApart =
    (s : State) → Reached s → (i : ℕ) → i < four → ((place_at s.table i).count - 1) * (place_at s.table i).size + (place_at s.table i).last ≤ place

-- ---- when a place is open

-- "hand a packet out at the first fragment with which the code can fill every chunk": what an open place holds does not suffice,
abbrev pub OpenWaits : Type 0
OpenWaits = (s : State) → Reached s → (i : ℕ) → i < four → (place_at s.table i).condition ≡ open_now → enough_in (place_at s.table i) ≡ false

-- "and never before": what a delivered or spoiled one holds does
abbrev pub ClosedSuffices : Type 0
ClosedSuffices =
    (s : State) → Reached s → (i : ℕ) → i < four
    → ((place_at s.table i).condition ≡ delivered → enough_in (place_at s.table i) ≡ true)
    × ((place_at s.table i).condition ≡ spoiled → enough_in (place_at s.table i) ≡ true)

-- ---- what a place holds is what came since it was opened, whoever sent it

-- document 01: the bytes that a place has for its fragment j, by its own figures; without FEC the last stands at the place's end
unfoldable pub part_in : Place → List ℕ → ℕ → List ℕ
part_in p held j =
    cond (not p.fec && leb p.count (j + 1))
    (take p.last (drop (place - p.last) held))
    (part_of held p.size j)

-- the call e is among these, the last one first, and from it on place i held the number n
pub data HeldSince (i n : ℕ) (e : Call) : List Call → Type 0 where
  just_now : {es : List Call} → holds (place_at e.left.table i) n ≡ true → HeldSince i n e (e ∷ es)
  before : {es : List Call} (c : Call) → HeldSince i n e es → holds (place_at c.left.table i) n ≡ true → HeldSince i n e (c ∷ es)

-- fragment j of the number n came in one of the calls, since place i was opened for it, and the place has its payload
pub record Came (es : List Call) (s : State) (i n j : ℕ) : Type 0 where
  pub call : Call
  pub since : HeldSince i n call es
  pub passed : heard call ≡ true
  pub number : number_in call ≡ n
  pub index : index_in call ≡ j
  -- a place keeps fragments of one cut: document 01, 9, refuses one of a number that is "held with other Fcount, FEC bit, RSk, RSz"
  pub count : (fields_of call.datagram).count ≡ (place_at s.table i).count
  pub fec : (fields_of call.datagram).fec ≡ (place_at s.table i).fec
  pub rsk : (fields_of call.datagram).rsk ≡ (place_at s.table i).rsk
  pub rsz : (fields_of call.datagram).rsz ≡ (place_at s.table i).rsz
  -- where its own header says that it stands,
  pub stands : take (fields_of call.datagram).plen (drop (offset_of (fields_of call.datagram)) (bytes_at s.bytes i)) ≡ payload_of
      call.datagram
  -- and where the place's figures say it
  pub part : part_in (place_at s.table i) (bytes_at s.bytes i) j ≡ payload_of call.datagram

-- document 01, "every kept byte": each fragment that a place keeps came, and the bytes that the place has for it are its payload
abbrev pub HeldCame : Type 0
HeldCame =
    (s : State) (c : Reached s) (i n j : ℕ) → i < four → holds (place_at s.table i) n ≡ true → get_or (place_at s.table i).kept j false ≡ true
    → Came c.calls s i n j

-- what a call leaves of fragment j of the number n in place i: it opens the place for another number, or number, fragment and bytes stay
pub data Stays (s : State) (e : Call) (i n j : ℕ) : Type 0 where
  displaced : heard e ≡ true → (Holds s (number_in e) → ⊥) → open_at s.table ≡ i → Stays s e i n j
  stays : holds (place_at e.left.table i) n ≡ true → get_or (place_at e.left.table i).kept j false ≡ true
      → part_in (place_at e.left.table i) (bytes_at e.left.bytes i) j ≡ part_in (place_at s.table i) (bytes_at s.bytes i) j → Stays s e i n j

-- document 01, 12 and "until displaced": a kept fragment stays, whatever datagram comes, until its place is opened for another number
abbrev pub StaysKept : Type 0
StaysKept =
    (s : State) → Reached s → (e : Call) → Made s e → (i n j : ℕ) → i < four → holds (place_at s.table i) n ≡ true
    → get_or (place_at s.table i).kept j false ≡ true → Stays s e i n j

-- ---- what no calls leave

-- document 01, "From a record in range that no calls could have left, a promise may list its answers in docs/ as an exception": three kinds
pub data Stray (p : Place) : Type 0 where
  -- without FEC, a fragment before the last is marked as kept, and s is unknown
  sizeless : (p.condition ≡ free → ⊥) → p.fec ≡ false → (j : ℕ) → j + 1 < p.count → get_or p.kept j false ≡ true → p.size ≡ 0 → Stray p
  -- without FEC, the last fragment is marked as kept, and it has no bytes
  endless : (p.condition ≡ free → ⊥) → p.fec ≡ false → (j : ℕ) → j + 1 ≡ p.count → get_or p.kept j false ≡ true → p.last ≡ 0 → Stray p
  -- the place is open, and what it holds suffices
  overdue : p.condition ≡ open_now → enough_in p ≡ true → Stray p

-- no calls leave such a record
abbrev pub NoStray : Type 0
NoStray = (s : State) → Reached s → (i : ℕ) → i < four → Stray (place_at s.table i) → ⊥
