-- Document 01, "What a promise has to say here": the useless stacks, and the false count. None of them keeps the promise: `Falls`.
use Rattle.std.specs.Prelude.{◌≡◌, true, false, List, [], ◌∷◌, ℕ, ◌≤◌, ◌<◌, length, Option}
use Rattle.base_rules.specs.Answer as answer
use Rattle.base_rules.specs.Bounds.{most_l}
use Rattle.base_rules.specs.Bytes.{Bytes, splice}
use Rattle.cut_rules.specs.declared.Address.{Address}
use Rattle.cut_rules.specs.declared.Settings.{Settings}
use Rattle.places_rules.specs.Places.{place_at, all_places}
use Rattle.form_rules.specs.Agree.{missing_in}
use Rattle.sender_rules.specs.Calls.{fragment_call, fragments_call}
use Rattle.sender_rules.specs.Fragments.{fragment_for, fragments_for}
use Rattle.receiver_rules.specs.Promise.{Reception, State, Step}
use Rattle.receiver_rules.specs.Claims.{kept_by}
use Rattle.link.specs.Run.{Call, after, fresh_with, Holds, number_in, All}
use Rattle.link.specs.Demand.{Takes, count, key_for, Own, enough_after, handing, HandsOut, Handed, HeldAfter}

-- ---- receivers, and what they do from a fresh table on

-- a receiver: what it leaves, from every state and for every input
abbrev pub Receiver : Type 0
Receiver = Option Address → State → List ℕ → List ℕ → Reception

-- it keeps the promise: each reception meets that of `receive`
pub record Keeps (R : Receiver) : Type 0 where
  pub meets : (own : Option Address) (s : State) (datagram out : List ℕ) → Bytes datagram → Step own s datagram out (R own s datagram out)

-- a call of its own in the state s: it "lends full room", a datagram is bytes, and what the call left is what the receiver leaves
pub record Serves (R : Receiver) (s : State) (e : Call) : Type 0 where
  pub room : most_l ≤ length e.lent
  pub bytes : Bytes e.datagram
  pub leaves : e.left ≡ R e.own s e.datagram e.lent

-- its own calls from the state s on, THE LAST ONE FIRST
pub data Served (R : Receiver) (s : State) : List Call → State → Type 0 where
  none : Served R s [] s
  more : {es : List Call} {u : State} (e : Call) → Served R s es u → Serves R u e → Served R s (e ∷ es) (after e)

-- a state that its own calls have left, from a fresh table on
pub record Reaches (R : Receiver) (s : State) : Type 0 where
  pub lent : List ℕ
  pub all : length lent ≡ all_places
  pub calls : List Call
  pub run : Served R (fresh_with lent) calls s

-- this is so of each of its own calls, in every state that it reaches
abbrev pub Always : Receiver → (State → Call → Type 0) → Type 0
Always R P = (s : State) → Reaches R s → (e : Call) → Serves R s e → P s e

-- document 01, "Numbers given back": the answer says that a packet is handed out
abbrev pub Delivers : Call → Type 0
Delivers e = (l : ℕ) × (m : ℕ) × (d : Option ℕ) × HandsOut e l m d

-- ---- useless receivers

-- "One that refuses everything"
pub record RefusesAll (R : Receiver) : Type 0 where
  pub refuses : Always R (λ s e. (n : ℕ) × (e.left.answer ≡ (n, [])))

-- "demand 3 forces delivery": one that hands nothing out, though it keeps every fragment for ever or answers DAMAGED for ever
pub record HandsNothing (R : Receiver) : Type 0 where
  pub never : Always R (λ s e. Delivers e → ⊥)

-- "One fixed packet"
pub record Fixed (R : Receiver) : Type 0 where
  pub packet : List ℕ
  pub only : Always R (λ s e. Delivers e → e.left.out ≡ splice e.lent 0 packet)

-- "One that stores nothing": one that never changes the bytes,
pub record StoresNoBytes (R : Receiver) : Type 0 where
  pub same : Always R (λ s e. e.left.bytes ≡ s.bytes)

-- or that never changes the record
pub record StoresNoRecord (R : Receiver) : Type 0 where
  pub same : Always R (λ s e. e.left.table ≡ s.table)

-- "One that serves the first packet and then pretends": right after a call that handed one out, nothing, or the same whatever comes
pub record Pretends (R : Receiver) : Type 0 where
  pub blind : Always R (λ s c. Delivers c → (d e : Call) → Serves R (after c) d → Serves R (after c) e → d.lent ≡ e.lent
      → Delivers d → Delivers e → d.left.out ≡ e.left.out)

-- "demand 3 holds from any reached state": from one that does not hold the number, its own calls, each of which left it held, and one more
pub record Episode (R : Receiver) (g : Settings) (n : ℕ) (packet : List ℕ) (earlier : List Call) (e : Call) : Type 0 where
  pub takes : Takes g n packet
  pub first : State
  pub reached : Reaches R first
  pub free : Holds first (key_for g n) → ⊥
  pub state : State
  pub served : Served R first earlier state
  pub held : HeldAfter g n earlier
  pub serves : Serves R state e
  pub own : All (Own g n packet) (e ∷ earlier)

-- "and then pretends", be it but once: at the first fragment after which a packet is enough, something else or nothing is handed out
pub record Withholds (R : Receiver) : Type 0 where
  pub g : Settings
  pub n : ℕ
  pub packet : List ℕ
  pub earlier : List Call
  pub call : Call
  pub episode : Episode R g n packet earlier call
  pub before : enough_after g n packet earlier ≡ false
  pub enough_now : enough_after g n packet (call ∷ earlier) ≡ true
  pub withheld : Handed g n packet earlier call → ⊥

-- "and then pretends", be it but once: at any other call a packet of the number is handed out
pub record Invents (R : Receiver) : Type 0 where
  pub g : Settings
  pub n : ℕ
  pub packet : List ℕ
  pub earlier : List Call
  pub call : Call
  pub episode : Episode R g n packet earlier call
  pub delivers : Delivers call
  pub number : number_in call ≡ key_for g n
  pub other : enough_after g n packet earlier ≡ false → enough_after g n packet (call ∷ earlier) ≡ true → ⊥

-- "A false count of missing fragments": one that a delivery of its own tells, and the set kept in the record that it left does not
pub record FalseCount (R : Receiver) : Type 0 where
  pub own : Option Address
  pub state : State
  pub datagram : List ℕ
  pub out : List ℕ
  pub bytes : Bytes datagram
  pub l : ℕ
  pub m : ℕ
  pub displaced : Option ℕ
  pub told : (R own state datagram out).answer ≡ handing l m displaced
  pub false_count : m ≡ missing_in (place_at (R own state datagram out).table (kept_by state datagram).at) → ⊥

-- ---- senders

-- a sender of one fragment: the settings, the number, the packet, the index and the lent bytes; its answer, and the lent bytes afterwards
abbrev pub Sender : Type 0
Sender = Settings → ℕ → List ℕ → ℕ → List ℕ → answer.Outcome

-- a sender of all fragments: it is asked for no index
abbrev pub WholeSender : Type 0
WholeSender = Settings → ℕ → List ℕ → List ℕ → answer.Outcome

-- it keeps the promise of `fragment`, for a number of 16 bits and a packet of bytes,
pub record Sends (S : Sender) : Type 0 where
  pub meets : (g : Settings) (n : ℕ) (packet : List ℕ) (i : ℕ) (out : List ℕ) → n < 65536 → Bytes packet
      → S g n packet i out ≡ fragment_call g n packet i out

-- or that of `fragments`
pub record SendsAll (S : WholeSender) : Type 0 where
  pub meets : (g : Settings) (n : ℕ) (packet out : List ℕ) → n < 65536 → Bytes packet → S g n packet out ≡ fragments_call g n packet out

-- a sender of all, as one that does not look at the index
abbrev pub any_index : WholeSender → Sender
any_index S g n packet i out = S g n packet out

-- ---- useless senders

-- "One that refuses everything": no packet is sent, with whatever number
pub record RefusesEveryPacket (S : Sender) : Type 0 where
  pub refuses : (g : Settings) (n : ℕ) (packet : List ℕ) (i : ℕ) (out : List ℕ) → Takes g n packet
      → (x : ℕ) × (left : List ℕ) × (S g n packet i out ≡ answer.outcome (answer.refused x) left)

-- "One fixed packet": the same is sent whatever the packet
pub record SendsFixed (S : Sender) : Type 0 where
  pub same : (g : Settings) (n : ℕ) (packet packet' : List ℕ) (i : ℕ) (out : List ℕ) → Takes g n packet → Takes g n packet'
      → answer.bytes_in (S g n packet i out) ≡ answer.bytes_in (S g n packet' i out)

-- "a sender writing one fragment only": the same one whatever index is asked
pub record OneFragment (S : Sender) : Type 0 where
  pub same : (g : Settings) (n : ℕ) (packet : List ℕ) (i j : ℕ) (out : List ℕ) → Takes g n packet → i < count g packet → j < count g packet
      → answer.bytes_in (S g n packet i out) ≡ answer.bytes_in (S g n packet j out)

-- "a sender writing one fragment only": of all, for which there is room, one at the front, whichever, and the bytes behind stay as they were
pub record WritesOneOnly (S : WholeSender) : Type 0 where
  pub only : (g : Settings) (n : ℕ) (packet out : List ℕ) → Takes g n packet → length (fragments_for g n packet) ≤ length out
      → (i : ℕ) × (answer.bytes_in (S g n packet out) ≡ splice out 0 (fragment_for g n packet i))

-- ---- what is claimed of them

-- there are receivers that keep the promise
abbrev pub SomeKeep : Type 0
SomeKeep = (R : Receiver) × Keeps R

-- but all of those above fall
pub record Falls : Type 0 where
  pub refuses_all : (R : Receiver) → Keeps R → RefusesAll R → ⊥
  pub hands_nothing : (R : Receiver) → Keeps R → HandsNothing R → ⊥
  pub fixed : (R : Receiver) → Keeps R → Fixed R → ⊥
  pub stores_no_bytes : (R : Receiver) → Keeps R → StoresNoBytes R → ⊥
  pub stores_no_record : (R : Receiver) → Keeps R → StoresNoRecord R → ⊥
  pub pretends : (R : Receiver) → Keeps R → Pretends R → ⊥
  pub withholds : (R : Receiver) → Keeps R → Withholds R → ⊥
  pub invents : (R : Receiver) → Keeps R → Invents R → ⊥
  pub false_count : (R : Receiver) → Keeps R → FalseCount R → ⊥
  pub refuses_every_packet : (S : Sender) → Sends S → RefusesEveryPacket S → ⊥
  pub refuses_every_packet_whole : (S : WholeSender) → SendsAll S → RefusesEveryPacket (any_index S) → ⊥
  pub sends_fixed : (S : Sender) → Sends S → SendsFixed S → ⊥
  pub sends_fixed_whole : (S : WholeSender) → SendsAll S → SendsFixed (any_index S) → ⊥
  pub one_fragment : (S : Sender) → Sends S → OneFragment S → ⊥
  pub writes_one_only : (S : WholeSender) → SendsAll S → WritesOneOnly S → ⊥

-- and none falls for want of such a stack: there are some of each kind
pub record SomeUseless : Type 0 where
  pub refuses_all : (R : Receiver) × RefusesAll R
  pub hands_nothing : (R : Receiver) × HandsNothing R
  pub fixed : (R : Receiver) × Fixed R
  pub stores_no_bytes : (R : Receiver) × StoresNoBytes R
  pub stores_no_record : (R : Receiver) × StoresNoRecord R
  pub pretends : (R : Receiver) × Pretends R
  pub withholds : (R : Receiver) × Withholds R
  pub invents : (R : Receiver) × Invents R
  pub false_count : (R : Receiver) × FalseCount R
  pub refuses_every_packet : (S : Sender) × RefusesEveryPacket S
  pub refuses_every_packet_whole : (S : WholeSender) × RefusesEveryPacket (any_index S)
  pub sends_fixed : (S : Sender) × SendsFixed S
  pub sends_fixed_whole : (S : WholeSender) × SendsFixed (any_index S)
  pub one_fragment : (S : Sender) × OneFragment S
  pub writes_one_only : (S : WholeSender) × WritesOneOnly S
