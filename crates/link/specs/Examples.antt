-- Demand 3 is not empty: two closed runs, `three_others` and `four_others`, line by line. There are such runs; in every one of them each call
-- answers what its line says, and demand 3's suppositions hold, so that its promise does. The proofs are cited in proofs/Proved.antt.
use Rattle.std.specs.Prelude.{◌≡◌, true, false, cond, List, [], ◌∷◌, ◌++◌, reverse, ℕ, ◌≤◌, eqb, length, replicate, take, drop, Option, Some, None, Result, Ok, Err}
use Rattle.base_rules.specs.declared.Refusal.{Refusal}
use Rattle.base_rules.specs.declared.Refusal.TheVariants as refusal
use Rattle.base_rules.specs.Bounds.{most_l}
use Rattle.base_rules.specs.Bytes.{splice}
use Rattle.af_rules.specs.Packet.{packet_of}
use Rattle.cut_rules.specs.declared.Address.{Address}
use Rattle.cut_rules.specs.declared.Settings.{Settings}
use Rattle.cut_rules.specs.Edge.{plain}
use Rattle.cut_rules.specs.Plan.{two_losses_of}
use Rattle.places_rules.specs.Places.{all_places}
use Rattle.sender_rules.specs.Fragments.{fragment_for}
use Rattle.receiver_rules.specs.declared.Received.{Received}
use Rattle.receiver_rules.specs.declared.Received.TheVariants.{Kept, Delivered, Damaged}
use Rattle.receiver_rules.specs.Promise.{number_of, State}
use Rattle.link.specs.Run.{Call, after, Run, fresh_with, Holds, ShownOpen, All, Each}
use Rattle.link.specs.Demand.{key_for, Scene, Begins, Among, enough_after, BeforeDone, Handed, Names, HeldAfter, Said, Demanded}

-- ---- the packets

-- the address that the packet carries and the card is set for: Source 1, Dest 2
abbrev pub here : Option Address
here = Some (record { source = 1; dest = 2 })

-- document 01, "Bounds": the setting for two losses, but with this address
abbrev pub two_losses : Settings
two_losses = record { fec = two_losses_of.fec; m = two_losses_of.m; mtu = two_losses_of.mtu; address = here; rule = two_losses_of.rule }

-- document 01, l 415, m 2: 12 fragments, "Any three lost still rebuild, no four do"
unfoldable pub packet : List ℕ
packet = packet_of 7 true (replicate 403 85)

-- the number under which it is sent
abbrev pub number : ℕ
number = 5

-- document 01, no FEC, l 1,387: two fragments, the last one of another size. It is sent without address, under each of the other numbers
unfoldable pub other : List ℕ
other = packet_of 8 true (replicate 1375 170)

-- at which settings a packet is sent under the number n
unfoldable pub settings_of : ℕ → Settings
settings_of n = cond (eqb n number) two_losses plain

-- and which one
unfoldable pub packet_under : ℕ → List ℕ
packet_under n = cond (eqb n number) packet other

-- ---- the lines of a run

-- what comes in a call: fragment i of what is sent under the number n, at a card that is set for the address own; the same with a byte too
-- many; or another datagram
pub data Arrival : Type 0 where
  Fragment : (own : Option Address) (n i : ℕ) → Arrival
  Longer : (n i : ℕ) → Arrival
  Other : List ℕ → Arrival

-- fragment i of the packet
abbrev pub Its : ℕ → Arrival
Its i = Fragment here number i

-- fragment i of the packet, at a card that is set for another address
abbrev pub Missed : ℕ → Arrival
Missed i = Fragment (Some (record { source = 1; dest = 3 })) number i

-- fragment i of the other packet, under the number n
abbrev pub Of : ℕ → ℕ → Arrival
Of n i = Fragment here n i

-- the address that the card is set for
unfoldable pub own_at : Arrival → Option Address
own_at (Fragment own n i) = own
own_at (Longer n i) = here
own_at (Other d) = here

-- the datagram
unfoldable pub datagram_at : Arrival → List ℕ
datagram_at (Fragment own n i) = fragment_for (settings_of n) n (packet_under n) i
datagram_at (Longer n i) = fragment_for (settings_of n) n (packet_under n) i ++ 0 ∷ []
datagram_at (Other d) = d

-- the packet that it is of, if it is of one
unfoldable pub packet_at : Arrival → List ℕ
packet_at (Fragment own n i) = packet_under n
packet_at (Longer n i) = []
packet_at (Other d) = []

-- a line: what comes, and what is answered
abbrev pub Line : Type 0
Line = Arrival × Result Received Refusal

-- the call has what comes
pub record Comes (line : Line) (e : Call) : Type 0 where
  pub own : e.own ≡ own_at line.0
  pub datagram : e.datagram ≡ datagram_at line.0

-- what is in the packet buffer after an answer: the packet at its front where it is handed out, else what was lent
unfoldable pub out_after : Result Received Refusal → List ℕ → List ℕ → List ℕ
out_after (Ok (Kept d)) packet lent = lent
out_after (Ok (Delivered l m d)) packet lent = splice lent 0 packet
out_after (Ok (Damaged d)) packet lent = lent
out_after (Err n) packet lent = lent

-- and it answers what the line says
pub record Answers (line : Line) (e : Call) : Type 0 where
  pub told : e.left.answer ≡ number_of line.1
  pub out : e.left.out ≡ out_after line.1 (packet_at line.0) e.lent

-- of each line and its call, THE LAST ONE FIRST
pub data Beside (P : Line → Call → Type 0) : List Line → List Call → Type 0 where
  none : Beside P [] []
  one_more : {l : Line} {e : Call} {ls : List Line} {es : List Call} → P l e → Beside P ls es → Beside P (l ∷ ls) (e ∷ es)

-- ---- runs

-- a run from a fresh table, with any lent bytes, any packet buffers with room and any receptions that meet the promise, in which comes what the
-- lines say, THE OLDEST FIRST
pub record Played (lines : List Line) : Type 0 where
  pub lent : List ℕ
  pub all : length lent ≡ all_places
  pub es : List Call
  pub now : State
  pub run : Run (fresh_with lent) es now
  pub comes : Beside Comes (reverse lines) es

-- there is one, whatever bytes and packet buffer are lent
abbrev pub Playable : List Line → Type 0
Playable lines =
    (lent out : List ℕ) → length lent ≡ all_places → most_l ≤ length out
    → (r : Played lines) × (r.lent ≡ lent) × All (λ e. e.lent ≡ out) r.es

-- `Demand3` of one packet over the calls es, from its first fragment on. It is done with one of them, which `later` calls follow
pub record Done (g : Settings) (n : ℕ) (packet : List ℕ) (others : List ℕ) (later : ℕ) (first : State) (es : List Call) (now : State) : Type 0 where
  -- what is supposed,
  pub scene : Scene g n packet first es now
  pub begins : Begins (key_for g n) es
  pub limit : BeforeDone g n packet (Among (key_for g n) others) es
  -- and what is promised;
  pub demanded : Each (Demanded g n packet) es
  -- the call with which it is enough, and those before it:
  pub call : Call
  pub earlier : List Call
  pub split : drop later es ≡ call ∷ earlier
  pub before : enough_after g n packet earlier ≡ false
  pub enough_now : enough_after g n packet (call ∷ earlier) ≡ true
  -- so its number shows as open until then, and that call hands it out
  pub shown : All (λ e. ShownOpen (after e) (key_for g n)) earlier
  pub handed : Handed g n packet earlier call

-- `Lifted` of one packet over the calls es, from its first fragment on. The last of them displaces it while it is open
pub record Gone (g : Settings) (n : ℕ) (packet : List ℕ) (first : State) (es : List Call) (now : State) : Type 0 where
  -- what is supposed;
  pub scene : Scene g n packet first es now
  -- the last call, and those before it:
  pub last : Call
  pub earlier : List Call
  pub split : es ≡ last ∷ earlier
  pub held : HeldAfter g n earlier
  pub before : enough_after g n packet earlier ≡ false
  pub gone : Holds now (key_for g n) → ⊥
  -- so its number shows as open until then, and the answer of that call names it
  pub shown : All (λ e. ShownOpen (after e) (key_for g n)) earlier
  pub said : Said g n packet earlier last
  pub named : Names (Some (key_for g n)) last.left.answer

-- old packets, one in each of the four places
unfoldable pub opening : List Line
opening = (Of 101 0, Ok (Kept None)) ∷ (Of 102 0, Ok (Kept None)) ∷ (Of 103 0, Ok (Kept None)) ∷ (Of 104 0, Ok (Kept None)) ∷ []

-- ---- three other numbers

-- demand 3: "fragments lost, repeated and reordered among those of other packets", datagrams that are no fragments, and addresses
unfoldable pub three_others : List Line
three_others =
    -- its first fragment to come is not fragment 0; it displaces an old packet
    (Its 4, Ok (Kept (Some 101)))
    -- an empty datagram
    ∷ (Other [], Err refusal.Short)
    -- the first other number, without FEC: its last fragment comes first, of which the size of the others cannot be told
    ∷ (Of 1 1, Ok (Kept (Some 102)))
    ∷ (Its 0, Ok (Kept None))
    -- a repeat
    ∷ (Its 0, Err refusal.Repeat)
    -- the second other number, and a repeat of it
    ∷ (Of 2 0, Ok (Kept (Some 103)))
    ∷ (Of 2 0, Err refusal.Repeat)
    -- "PF" and nothing behind it; and 14 bytes that begin with "AF"
    ∷ (Other (0x50 ∷ 0x46 ∷ []), Err refusal.Short)
    ∷ (Other (0x41 ∷ 0x46 ∷ replicate 12 0), Err refusal.Sync)
    ∷ (Its 1, Ok (Kept None))
    ∷ (Its 2, Ok (Kept None))
    -- addresses do not match: fragment 3 has not come by this
    ∷ (Missed 3, Err refusal.Address)
    -- the third other number
    ∷ (Of 3 0, Ok (Kept (Some 104)))
    -- number 1's last fragment missing: that packet is handed out; and not again
    ∷ (Of 1 0, Ok (Delivered 1387 0 None))
    ∷ (Of 1 1, Err refusal.Late)
    -- fragment 5 is lost
    ∷ (Its 6, Ok (Kept None))
    -- fragment 7 has a byte too many: it has not come by this either
    ∷ (Longer number 7, Err refusal.Length)
    ∷ (Its 8, Ok (Kept None))
    ∷ (Its 9, Ok (Kept None))
    -- with this one 8 of the 12 have come: four are missing, which do not rebuild
    ∷ (Its 10, Ok (Kept None))
    -- and with this one 9: three are missing, which do
    ∷ (Its 11, Ok (Delivered 415 3 None))
    -- fragment 3 after all: too late
    ∷ (Its 3, Err refusal.Late)
    -- a fourth other number, now that it is done: it displaces it and names none
    ∷ (Of 4 0, Ok (Kept None))
    ∷ []

-- what such a run shows
pub record HandedOutOnce (es : List Call) (now : State) : Type 0 where
  pub answers : Beside Answers (reverse (opening ++ three_others)) es
  -- when its first fragment comes, the old packets are held
  pub first : State
  pub olds : Holds first 101 × Holds first 102 × Holds first 103 × Holds first 104
  -- the 23 calls behind the opening: the packet is done with the third from the end
  pub its : Done two_losses number packet (1 ∷ 2 ∷ 3 ∷ []) 2 first (take 23 es) now
  -- its number is held after the late fragment too, until the last call displaces it
  pub held : HeldAfter two_losses number (take 22 (drop 1 es))
  pub gone : Holds now (key_for two_losses number) → ⊥
  -- and the packet of number 1, from its first fragment on
  pub then : State
  pub one : Done plain 1 other (number ∷ 2 ∷ 3 ∷ []) 9 then (take 21 es) now

-- there are such runs, and all of them show it
pub record ThreeOthers : Type 0 where
  pub some : Playable (opening ++ three_others)
  pub every : (r : Played (opening ++ three_others)) → HandedOutOnce r.es r.now

-- ---- a fourth displaces it

-- demand 3: "Lift the limit of three"
unfoldable pub four_others : List Line
four_others =
    (Its 0, Ok (Kept (Some 101)))
    ∷ (Of 1 0, Ok (Kept (Some 102)))
    ∷ (Of 2 0, Ok (Kept (Some 103)))
    ∷ (Of 3 0, Ok (Kept (Some 104)))
    -- the fourth: the place opened longest ago is now that of 5
    ∷ (Of 4 0, Ok (Kept (Some 5)))
    ∷ []

-- what such a run shows: the last of the five calls behind the opening displaces the packet
pub record DisplacedLast (es : List Call) (now : State) : Type 0 where
  pub answers : Beside Answers (reverse (opening ++ four_others)) es
  pub first : State
  pub its : Gone two_losses number packet first (take 5 es) now

-- there are such runs, and all of them displace it
pub record FourOthers : Type 0 where
  pub some : Playable (opening ++ four_others)
  pub every : (r : Played (opening ++ four_others)) → DisplacedLast r.es r.now
