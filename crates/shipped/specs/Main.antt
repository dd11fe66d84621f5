-- DEMAND 3 OF THE LIBRARY THAT IS SHIPPED: in the numbers, the told bytes and the buffers of card.h, of what bailhammer_fragments wrote, in any
-- run of bailhammer_receive, as bailhammer_query shows it. Each line stands beside its line in link/specs/Demand.antt; the proofs are cited in
-- proofs/Proved.antt, and assume nothing.
use Rattle.std.specs.Prelude.{◌⊎◌, ◌≡◌, Bool, true, false, List, ◌∷◌, map, ℕ, ◌≤◌, ◌<◌, length, get_or, take}
use Rattle.base_rules.specs.Bytes.{Bytes, splice, number_at}
use Rattle.cut_rules.specs.declared.Settings.{Settings}
use Rattle.cut_rules.specs.Claims.{SureOfM}
use Rattle.cut_rules.specs.Missing.{losses}
use Rattle.cut_rules.specs.Plan.{plan_of}
use Rattle.cut_rules.specs.Sizes.{assured}
use Rattle.places_rules.specs.Places.{open_now}
use Rattle.sender_rules.specs.Fragments.{fragment_for}
use Rattle.sender_rules.specs.Calls.{fragment_call, fragments_call, part_at}
use Rattle.card_rules.specs.Told.{CardTold, SentAs}
use Rattle.card_rules.specs.Sending.{settings_of, twos}
use Rattle.link.specs.Run.{heard, number_in, index_in, lost, All, Each}
use Rattle.link.specs.Demand as link
use Rattle.shipped.specs.Runs.{Buffers, Call, after, Made, Run, Reached, call_of, ShownAs, Holds}

-- ---- "a packet our sender cut"

-- a call of bailhammer_fragments: what C hands it, the buffers as they are lent, and what it left in them
pub record Sending : Type 0 where
  pub fec : ℕ
  pub m : ℕ
  pub newer : ℕ
  pub mtu : ℕ
  pub addressed : ℕ
  pub source : ℕ
  pub dest : ℕ
  pub number : ℕ
  pub packet : List ℕ
  pub told : List ℕ
  pub out : List ℕ
  pub told_afterwards : List ℕ
  pub out_afterwards : List ℕ

-- its settings
abbrev pub settings : Sending → Settings
settings c = settings_of c.fec c.m c.newer c.mtu c.addressed c.source c.dest

-- the call gave 0; numbers and bytes are what their types in card.h say
pub record Cut (c : Sending) : Type 0 where
  pub meets : SentAs (twos 4) (fragments_call (settings c) c.number c.packet c.out) c.told c.told_afterwards c.out
      c.out_afterwards 0
  pub bytes : Bytes c.packet
  pub number : c.number < 65536
  pub source : c.source < 65536
  pub dest : c.dest < 65536

-- card.h, "two each: f, h, s and last": how many fragments it has
abbrev pub count : Sending → ℕ
count c = number_at 2 c.told_afterwards 0

-- and fragment i, which the caller takes by these figures from what was written
abbrev pub fragment_at : Sending → ℕ → List ℕ
fragment_at c i = part_at (count c) (number_at 2 c.told_afterwards 2) (number_at 2 c.told_afterwards 4) (number_at 2 c.told_afterwards 6) c.out_afterwards i

-- "its number": that by which the receiver tells the packet
abbrev pub key : Sending → ℕ
key c = link.key_for (settings c) c.number

-- ---- what is supposed

-- "all later fragments of that number are its own": a datagram that passes the checks with its number is one of its fragments
unfoldable pub Own : Sending → Call → Type 0
Own c e = heard (call_of e) ≡ true → number_in (call_of e) ≡ key c → (i : ℕ) × (i < count c) × (e.datagram ≡ fragment_at c i)

-- the packet is sent; with the buffers `first` its number is not held. Since then the calls es were made, the last one first, and left `now`
pub record Scene (c : Sending) (first : Buffers) (es : List Call) (now : Buffers) : Type 0 where
  pub cut : Cut c
  -- "the table as the last call left it, fresh before the first": 1,081 zeros and any 49,152 bytes
  pub reached : Reached first
  -- "no earlier packet of its number is still held when its first fragment comes"
  pub free : Holds first (key c) → ⊥
  -- "each call lends full room", "nobody clears it"
  pub run : Run first es now
  pub own : All (Own c) es

-- ---- when it is done

-- "after which no chunk misses more than 48 bytes, or without parity at the last fragment missing"
abbrev pub enough_after : Sending → List Call → Bool
enough_after c es = link.enough_after (settings c) c.number c.packet (map call_of es)

-- how many of its fragments have not come
abbrev pub missing_after : Sending → List Call → ℕ
missing_after c es = losses (lost (key c) (map call_of es)) (count c)

-- "before it is done": of each call before which it was not enough
abbrev pub BeforeDone : Sending → (Call → Type 0) → List Call → Type 0
BeforeDone c P es = Each (λ earlier e. enough_after c earlier ≡ false → P e) es

-- ---- what is promised

-- card.h: the call gives 0 and tells "1 where a packet was handed out (1)"
abbrev pub HandsOut : Call → Type 0
HandsOut e = (e.given ≡ 0) × (get_or e.left.told 0 0 ≡ 1)

-- "handed out byte for byte": card.h, "its length (2), how many of its fragments are not held (2)", and the packet at the front of out
pub record Handed (c : Sending) (earlier : List Call) (e : Call) : Type 0 where
  pub hands_out_lem : HandsOut e
  pub length_told : number_at 2 e.left.told 1 ≡ length c.packet
  pub missing_told : number_at 2 e.left.told 3 ≡ missing_after c (e ∷ earlier)
  pub written : e.left.out ≡ splice e.out 0 c.packet

-- card.h: the call gives 0 or 13 and tells "1 and the number of the packet that lost its place before it was formed (1 and 2)"
pub record Names (e : Call) (n : ℕ) : Type 0 where
  pub answered : (e.given ≡ 0) ⊎ (e.given ≡ 13)
  pub displaced : get_or e.left.told 5 0 ≡ 1
  pub number : number_at 2 e.left.told 6 ≡ n

-- what is said of the call e after the calls `earlier`, each of which left its number held
pub record Said (c : Sending) (earlier : List Call) (e : Call) : Type 0 where
  -- "From its first fragment until then .. the number shows as open"
  pub shown : Holds (after e) (key c) → enough_after c (e ∷ earlier) ≡ false → ShownAs open_now (after e) (key c)
  -- "it is handed out byte for byte at the first fragment after which" it is enough
  pub handed : enough_after c earlier ≡ false → enough_after c (e ∷ earlier) ≡ true → Handed c earlier e
  -- "until then nothing of its number is handed out", "and not again while its number is held"
  pub once : HandsOut e → number_in (call_of e) ≡ key c → (enough_after c earlier ≡ false) × (enough_after c (e ∷ earlier) ≡ true)
  -- "the answer that displaces it while open names it"
  pub named : 0 < length earlier → (Holds (after e) (key c) → ⊥) → enough_after c earlier ≡ false → Names e (key c)

-- "its number is held" after each of these calls
abbrev pub HeldAfter : Sending → List Call → Type 0
HeldAfter c es = All (λ e. Holds (after e) (key c)) es

-- demand 3 of the call e after the calls `earlier`
pub record Demanded (c : Sending) (earlier : List Call) (e : Call) : Type 0 where
  -- until it is done, that call too, its number is held, and all this is said
  pub until_done : enough_after c earlier ≡ false → HeldAfter c (e ∷ earlier) × Said c earlier e
  -- and then "while its number is held"
  pub while_held : HeldAfter c earlier → Said c earlier e

-- ---- the theorems

-- "at most three other numbers arrive": a datagram that passes the checks has its number or one of the others
abbrev pub Among : Sending → List ℕ → Call → Type 0
Among c others e = link.Among (key c) others (call_of e)

-- demand 3, of every call of the run with the calls before it
abbrev pub Demand3 : Type 0
Demand3 =
    (c : Sending) (first : Buffers) (es : List Call) (now : Buffers) → Scene c first es now
    -- the first of the calls brings its first fragment
    → link.Begins (key c) (map call_of es)
    → (others : List ℕ) → length others ≤ 3 → BeforeDone c (Among c others) es
    → Each (Demanded c) es

-- "Lift the limit of three, and all this holds until it is displaced"
abbrev pub Lifted : Type 0
Lifted =
    (c : Sending) (first : Buffers) (es : List Call) (now : Buffers) → Scene c first es now
    → Each (λ earlier e. HeldAfter c earlier → Said c earlier e) es

-- "A sender set for m losses, 1 to 5, always leaves enough after any m": document 02, Item 6, has this sentence speak of the losses that the
-- plan assures,
abbrev pub Bears : Type 0
Bears = (c : Sending) → Cut c → (es : List Call) → missing_after c es ≤ assured (settings c) (length c.packet) → enough_after c es ≡ true

-- which bailhammer_plan tells last, in its bytes 18 and 19, where it is handed the same numbers and 20 bytes to tell in,
abbrev pub PlanTells : Type 0
PlanTells =
    (c : Sending) → Cut c → (told told_afterwards : List ℕ) (r : ℕ) → 20 ≤ length told
    → CardTold (twos 10) (plan_of (settings_of c.fec c.m c.newer c.mtu c.addressed 0 0) (length c.packet)) told told_afterwards r
    → (r ≡ 0) × (number_at 2 told_afterwards 18 ≡ assured (settings c) (length c.packet))

-- and which are m by document 000's rule, and by document 001's unless m is 5 and c above 1
abbrev pub BearsM : Type 0
BearsM =
    (c : Sending) → Cut c → SureOfM (settings c) (length c.packet) → (es : List Call) → missing_after c es ≤ c.m → enough_after c es ≡ true

-- what bailhammer_fragments wrote, split by what it told, are the fragments of the packet that `Own` of link/specs/Demand.antt speaks of
abbrev pub SentAll : Type 0
SentAll =
    (c : Sending) → Cut c
    → (count c ≡ link.count (settings c) c.packet)
    × ((i : ℕ) → i < count c → fragment_at c i ≡ fragment_for (settings c) c.number c.packet i)

-- bailhammer_fragment, which writes one at the front of out and tells its length, writes the same
abbrev pub SentOne : Type 0
SentOne =
    (c : Sending) → Cut c → (i : ℕ) → i < count c → (told told_afterwards out out_afterwards : List ℕ)
    → SentAs (twos 1) (fragment_call (settings c) c.number c.packet i out) told told_afterwards out out_afterwards 0
    → take (number_at 2 told_afterwards 0) out_afterwards ≡ fragment_at c i

-- "addresses match": the packet is sent without one, or the call is handed the same
abbrev pub Matches : Sending → Call → Type 0
Matches c e = (c.addressed ≡ 0) ⊎ ((e.addressed ≡ 0 → ⊥) × (e.source ≡ c.source) × (e.dest ≡ c.dest))

-- then its fragment i passes the checks, and has come as the one that it is
abbrev pub MatchHeard : Type 0
MatchHeard =
    (c : Sending) → Cut c → (i : ℕ) → i < count c → (e : Call) → e.datagram ≡ fragment_at c i → Matches c e
    → (heard (call_of e) ≡ true) × (number_in (call_of e) ≡ key c) × (index_in (call_of e) ≡ i)

-- no false alarm: a number that a call names was shown as open before it, and is not held after it
abbrev pub NamesGone : Type 0
NamesGone =
    (s : Buffers) → Reached s → (e : Call) → Made s e → (n : ℕ) → Names e n → ShownAs open_now s n × (Holds (after e) n → ⊥)
