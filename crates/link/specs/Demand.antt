-- DEMAND 3, as one theorem over every call of a run: `Demand3`, and `Lifted` without the limit of three. What is supposed, what is promised,
-- and nothing else; docs/DEMAND3.md sets each line beside the demand's words. The proofs are cited in proofs/Proved.antt, and assume nothing.
use Rattle.std.specs.Prelude.{◌≡◌, Bool, true, false, cond, List, [], ◌∷◌, ℕ, ◌≤◌, ◌<◌, eqb, length, Option, Some, Ok}
use Rattle.base_rules.specs.Bytes.{Bytes, splice}
use Rattle.base_rules.specs.Tests.{among}
use Rattle.cut_rules.specs.declared.Settings.{Settings}
use Rattle.cut_rules.specs.Claims.{SureOfM}
use Rattle.cut_rules.specs.Missing.{losses, suffice}
use Rattle.cut_rules.specs.Sizes as cut
use Rattle.header_rules.specs.Read.{bad_address}
use Rattle.header_rules.specs.Claims.{Fitting}
use Rattle.sender_rules.specs.Fragments.{fragment_for}
use Rattle.sender_rules.specs.Calls.{packet_fault}
use Rattle.receiver_rules.specs.declared.Received.TheVariants.{Kept, Delivered, Damaged}
use Rattle.receiver_rules.specs.Promise.{number_of, State}
use Rattle.link.specs.Run.{Call, after, Made, Run, Reached, Holds, ShownOpen, heard, number_in, index_in, lost, All, Each}

-- ---- what is supposed

-- "a packet our sender cut": the settings g, the number n and the packet are refused by neither 40, nor the AF checks, nor 41
pub record Takes (g : Settings) (n : ℕ) (packet : List ℕ) : Type 0 where
  pub passed : packet_fault g packet ≡ 0
  pub bytes : Bytes packet
  pub number : n < 65536
  pub address : Fitting g.address

-- document 01: how many fragments it has
abbrev pub count : Settings → List ℕ → ℕ
count g packet = cut.f g (length packet)

-- "its number": that by which the receiver tells a packet, of one that is sent at the settings g under the number n
unfoldable pub key_for : Settings → ℕ → ℕ
key_for g n = n

-- "all later fragments of that number are its own": a datagram that passes the checks with its number is one of its fragments
unfoldable pub Own : Settings → ℕ → List ℕ → Call → Type 0
Own g n packet e = heard e ≡ true → number_in e ≡ key_for g n → (i : ℕ) × (i < count g packet) × (e.datagram ≡ fragment_for g n packet i)

-- The packet is sent at the settings g under the number n. In the state `first` its number is not held. Since then the calls es were made, the
-- last one first, with fragments lost, repeated and reordered among any other datagrams, and they left the state `now`
pub record Scene (g : Settings) (n : ℕ) (packet : List ℕ) (first : State) (es : List Call) (now : State) : Type 0 where
  pub takes : Takes g n packet
  -- "the table as the last call left it, fresh before the first"
  pub reached : Reached first
  -- "no earlier packet of its number is still held when its first fragment comes"
  pub free : Holds first (key_for g n) → ⊥
  -- "each call lends full room", "nobody clears it"
  pub run : Run first es now
  pub own : All (Own g n packet) es

-- the first of the calls, which is the last of the list, brings its first fragment
unfoldable pub Begins : ℕ → List Call → Type 0
Begins key [] = Unit {0}
Begins key (e ∷ []) = (heard e ≡ true) × (number_in e ≡ key)
Begins key (e ∷ (d ∷ es)) = Begins key (d ∷ es)

-- "at most three other numbers arrive": a datagram that passes the checks has its number or one of the others
unfoldable pub Among : ℕ → List ℕ → Call → Type 0
Among key others e = heard e ≡ true → (number_in e ≡ key → ⊥) → among (number_in e) others ≡ true

-- ---- when it is done

-- document 01: the chunks that are looked at, floor(fs / n): those of the cut, by C3
abbrev pub chunks : Settings → List ℕ → ℕ
chunks g packet = cut.received_c (count g packet) (cut.s g (length packet)) (cut.k (length packet))

-- "after which no chunk misses more than 48 bytes, or without parity at the last fragment missing"
unfoldable pub enough_after : Settings → ℕ → List ℕ → List Call → Bool
enough_after g n packet es =
    cond g.fec
    (suffice (lost (key_for g n) es) (count g packet) (cut.n (length packet)) (chunks g packet))
    (eqb (losses (lost (key_for g n) es) (count g packet)) 0)

-- "before it is done": of each call before which it was not enough
abbrev pub BeforeDone : Settings → ℕ → List ℕ → (Call → Type 0) → List Call → Type 0
BeforeDone g n packet P es = Each (λ earlier e. enough_after g n packet earlier ≡ false → P e) es

-- ---- what is promised

-- document 01: the answer that hands a packet out tells its length, the count of fragments not held, and a displaced number or none
abbrev pub handing : ℕ → ℕ → Option ℕ → ℕ × List ℕ
handing length missing d = number_of (Ok (Delivered length missing d))

-- the call hands a packet out
abbrev pub HandsOut : Call → ℕ → ℕ → Option ℕ → Type 0
HandsOut e length missing d = e.left.answer ≡ handing length missing d

-- "handed out byte for byte": with its length and the count of its fragments that have not come, and in the buffer at its front
pub record Handed (g : Settings) (n : ℕ) (packet : List ℕ) (earlier : List Call) (e : Call) : Type 0 where
  pub displaced : Option ℕ
  pub told : HandsOut e (length packet) (losses (lost (key_for g n) (e ∷ earlier)) (count g packet)) displaced
  pub written : e.left.out ≡ splice e.lent 0 packet

-- the answer names the displaced number, or that there was none; a delivering and a DAMAGED one too
pub data Names (d : Option ℕ) : ℕ × List ℕ → Type 0 where
  by_kept : Names d (number_of (Ok (Kept d)))
  by_delivered : (length missing : ℕ) → Names d (handing length missing d)
  by_damaged : Names d (number_of (Ok (Damaged d)))

-- what is said of the call e after the calls `earlier`, each of which left its number held
pub record Said (g : Settings) (n : ℕ) (packet : List ℕ) (earlier : List Call) (e : Call) : Type 0 where
  -- "From its first fragment until then .. the number shows as open"
  pub shown : Holds (after e) (key_for g n) → enough_after g n packet (e ∷ earlier) ≡ false → ShownOpen (after e) (key_for g n)
  -- "it is handed out byte for byte at the first fragment after which" it is enough
  pub handed : enough_after g n packet earlier ≡ false → enough_after g n packet (e ∷ earlier) ≡ true → Handed g n packet earlier e
  -- "until then nothing of its number is handed out", "and not again while its number is held": a call that hands out a packet of its number,
  -- whatever its datagram and configuration, is the one with which it became enough
  pub once : (length missing : ℕ) (d : Option ℕ) → HandsOut e length missing d → number_in e ≡ key_for g n
      → (enough_after g n packet earlier ≡ false) × (enough_after g n packet (e ∷ earlier) ≡ true)
  -- "the answer that displaces it while open names it"
  pub named : 0 < length earlier → (Holds (after e) (key_for g n) → ⊥) → enough_after g n packet earlier ≡ false
      → Names (Some (key_for g n)) e.left.answer

-- ---- the theorem

-- "its number is held" after each of these calls
abbrev pub HeldAfter : Settings → ℕ → List Call → Type 0
HeldAfter g n es = All (λ c. Holds (after c) (key_for g n)) es

-- demand 3 of the call e after the calls `earlier`
pub record Demanded (g : Settings) (n : ℕ) (packet : List ℕ) (earlier : List Call) (e : Call) : Type 0 where
  -- until it is done, that call too, its number is held, and all this is said
  pub until_done : enough_after g n packet earlier ≡ false → HeldAfter g n (e ∷ earlier) × Said g n packet earlier e
  -- and then "while its number is held"
  pub while_held : HeldAfter g n earlier → Said g n packet earlier e

-- demand 3, of every call of the run with the calls before it
abbrev pub Demand3 : Type 0
Demand3 =
    (g : Settings) (n : ℕ) (packet : List ℕ) (first : State) (es : List Call) (now : State)
    → Scene g n packet first es now → Begins (key_for g n) es
    → (others : List ℕ) → length others ≤ 3 → BeforeDone g n packet (Among (key_for g n) others) es
    → Each (Demanded g n packet) es

-- "Lift the limit of three, and all this holds until it is displaced"
abbrev pub Lifted : Type 0
Lifted =
    (g : Settings) (n : ℕ) (packet : List ℕ) (first : State) (es : List Call) (now : State)
    → Scene g n packet first es now
    → Each (λ earlier e. HeldAfter g n earlier → Said g n packet earlier e) es

-- "A sender set for m losses, 1 to 5, always leaves enough after any m": document 02, Item 6, has this sentence speak of the losses that the
-- plan assures,
abbrev pub T3 : Type 0
T3 =
    (g : Settings) (n : ℕ) (packet : List ℕ) (es : List Call) → Takes g n packet
    → losses (lost (key_for g n) es) (count g packet) ≤ cut.assured g (length packet) → enough_after g n packet es ≡ true

-- which are m by document 000's rule, and by document 001's unless m is 5 and c above 1
abbrev pub T3m : Type 0
T3m =
    (g : Settings) (n : ℕ) (packet : List ℕ) (es : List Call) → Takes g n packet → SureOfM g (length packet)
    → losses (lost (key_for g n) es) (count g packet) ≤ g.m → enough_after g n packet es ≡ true

-- "addresses match": a call whose configuration accepts the packet's address hears every fragment of it, as the one that it is
abbrev pub MatchHeard : Type 0
MatchHeard =
    (g : Settings) (n : ℕ) (packet : List ℕ) → Takes g n packet → (e : Call) (i : ℕ) → i < count g packet
    → e.datagram ≡ fragment_for g n packet i → bad_address e.own g.address ≡ false
    → (heard e ≡ true) × (number_in e ≡ key_for g n) × (index_in e ≡ i)

-- "the first fragment after which": what is enough stays enough, so there is one such call and no other
abbrev pub StaysEnough : Type 0
StaysEnough =
    (g : Settings) (n : ℕ) (packet : List ℕ) (e : Call) (es : List Call) → Takes g n packet
    → enough_after g n packet es ≡ true → enough_after g n packet (e ∷ es) ≡ true

-- document 01, "The answer .. names the displaced number whenever its place was open, and otherwise none": no false alarm. In any reached
-- state, for any datagram, a number that the answer names was shown as open before the call, and is not held after it
abbrev pub NamesGone : Type 0
NamesGone =
    (s : State) → Reached s → (e : Call) → Made s e → (key : ℕ) → Names (Some key) e.left.answer
    → ShownOpen s key × (Holds (after e) key → ⊥)
