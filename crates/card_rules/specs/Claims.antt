-- What is claimed of the calls for C, in the words of card.h: the proofs are in proofs/Proved.antt.
use Rattle.base_rules.specs.declared.Refusal.{Refusal}
use Rattle.std.specs.Prelude.{◌≡◌, List, [], ◌∷◌, ◌++◌, ◌⊎◌, ℕ, ◌+◌, ◌^◌, ◌<◌, ◌≤◌, length, get_or, take, drop, replicate, Option, Result, Ok, Err}
use Rattle.base_rules.specs.Answer.{granted, answer_in}
use Rattle.base_rules.specs.Bounds.{most_f, most_l}
use Rattle.base_rules.specs.Bytes.{Bytes, splice, number_at, bytes_of}
use Rattle.base_rules.specs.Tests.{bit}
use Rattle.cut_rules.specs.Plan.{plan_fault, figures_of}
use Rattle.cut_rules.specs.Sizes.{f}
use Rattle.cut_rules.specs.declared.Address.{Address}
use Rattle.cut_rules.specs.declared.Settings.{Settings}
use Rattle.endurance_rules.specs.Claims.{is_handed_out}
use Rattle.endurance_rules.specs.Endure.{stands_of}
use Rattle.sender_rules.specs.Calls.{fragment_call, fragments_call}
use Rattle.packed_rules.specs.Packed.{table-bytes, table_from, unpack_fault, unpack_call}
use Rattle.places_rules.specs.Places.{fresh_table}
use Rattle.receiver_rules.specs.Promise.{number_of, Reception, room_fault, payload_of, State, Step}
use Rattle.receiver_rules.specs.declared.Received.TheVariants.{Delivered}
use Rattle.item_rules.specs.declared.Item.{Item}
use Rattle.item_rules.specs.declared.Repeats.{Repeats}
use Rattle.item_rules.specs.Item.{head}
use Rattle.tag_rules.specs.declared.Located.{Located}
use Rattle.tag_rules.specs.declared.Located.TheVariants as located
use Rattle.tag_rules.specs.Find.{locate_of, locate_nth_of}
use Rattle.tag_rules.specs.Calls.{locate_call, locate_nth_call}
use Rattle.walk_rules.specs.declared.Handed.{Handed}
use Rattle.walk_rules.specs.declared.Handed.TheVariants as handed
use Rattle.walk_rules.specs.declared.Walker.{Walker}
use Rattle.walk_rules.specs.Names.{names_fault}
use Rattle.walk_rules.specs.Step.{opens, walk_step}
use Rattle.card_rules.specs.Told.{refusal_in, in_widths, told_length, CardWritten, CardTold}
use Rattle.card_rules.specs.Endurance.{endure_for, endure_widths}
use Rattle.card_rules.specs.Headers.{header_widths, parse_for}
use Rattle.card_rules.specs.Receiving.{receipt_told, receipt_widths, Held, RefusedWith, CardReceived, clear_for}
use Rattle.card_rules.specs.Items.{found_widths, walker_bytes, walker_bytes_of, walker_from, step_widths, stepped, walk_step_call, CardStepped}
use Rattle.card_rules.specs.Blocks.{CardFilled}

-- ---- the sender: what it tells

-- each number fits two bytes
pub data InTwo : List ℕ → Type 0 where
  none : InTwo []
  more : {x : ℕ} {values : List ℕ} → x < 65536 → InTwo values → InTwo (x ∷ values)

-- clause 7.2: no figure of a plan that is not refused is cut off where it is told in two bytes,
abbrev pub PlanWhole : Type 0
PlanWhole = (g : Settings) (l : ℕ) → plan_fault g l ≡ 0 → InTwo (figures_of g l)

-- clause 7.3: nor is a fragment's length,
abbrev pub LengthWhole : Type 0
LengthWhole =
    (g : Settings) (number : ℕ) (packet : List ℕ) (i : ℕ) (out values : List ℕ) → answer_in (fragment_call g number packet i out) ≡ granted values
    → InTwo values

-- nor a figure of the split of all fragments
abbrev pub SplitWhole : Type 0
SplitWhole =
    (g : Settings) (number : ℕ) (packet out values : List ℕ) → answer_in (fragments_call g number packet out) ≡ granted values → InTwo values

-- card.h, bailhammer_endure, "w (2), f (2), and 256 bytes": what reads back of what is told
pub record EnduranceRead (g : Settings) (l : ℕ) (told : List ℕ) : Type 0 where
  pub most : number_at 2 told 0 ≡ stands_of g l
  pub count : number_at 2 told 2 ≡ f g l
  pub set : (i : ℕ) → i < most_f → get_or told (4 + i) 0 ≡ bit (is_handed_out g l i)

-- document 02, Item 12: so it is where the plan is not refused and there is room, and nothing is cut off
abbrev pub EnduranceWhole : Type 0
EnduranceWhole =
    (g : Settings) (l : ℕ) → plan_fault g l ≡ 0 → (before after : List ℕ) (r : ℕ) → told_length endure_widths ≤ length before
    → CardTold endure_widths (endure_for g l) before after r → (r ≡ 0) × EnduranceRead g l after

-- ---- the receiver

-- card.h, "all zeros for a fresh one": so they are taken,
abbrev pub ZerosFresh : Type 0
ZerosFresh = unpack_call (replicate table-bytes 0) ≡ (granted [], fresh_table)

-- and so a clearing leaves them
abbrev pub ClearedZeros : Type 0
ClearedZeros = (before after : List ℕ) (lent : ℕ) → CardWritten (clear_for before lent) after 0 → after ≡ replicate table-bytes 0

-- document 01, "What a promise has to say here": no second outcome fits the promise of a receiving, neither what is lent after it nor its number
abbrev pub OneReceipt : Type 0
OneReceipt =
    (own : Option Address) (datagram : List ℕ) (before after after' : Held) (r r' : ℕ)
    → CardReceived own datagram before after r → CardReceived own datagram before after' r' → (after ≡ after') × (r ≡ r')

-- card.h, "Where the number is neither 0, 13 nor 256, no byte lent is changed": the record too, which is packed again, is the bytes it was
abbrev pub RefusedUnchanged : Type 0
RefusedUnchanged =
    (own : Option Address) (datagram : List ℕ) (before after : Held) (r : ℕ) → Bytes before.record_bytes
    → CardReceived own datagram before after r → (r ≡ 0 → ⊥) → (r ≡ 13 → ⊥) → after ≡ before

-- what is told of a packet: with 1 its length, and it stands at the front of out; with 0 none was handed out, and out stays
pub data Shown (out after : List ℕ) : ℕ → ℕ → Type 0 where
  handed_out : (P : List ℕ) → after ≡ splice out 0 P → Shown out after 1 (length P)
  only_kept : after ≡ out → Shown out after 0 0

-- what a receiving that was not refused tells stands at the front of `told`, all 8 bytes of it
pub record Said (before after : Held) : Type 0 where
  pub handed : ℕ
  pub l : ℕ
  pub missing : ℕ
  pub displaced : Option ℕ
  pub room : told_length receipt_widths ≤ length before.told
  pub told : after.told ≡ splice before.told 0 (in_widths receipt_widths (receipt_told handed l missing displaced))
  pub shown : Shown before.out after.out handed l

-- card.h, "So a packet that is handed out is always told": a receiving that gives 0 or 13 has told its 8 bytes
abbrev pub NoSilence : Type 0
NoSilence =
    (own : Option Address) (datagram : List ℕ) (before after : Held) (r : ℕ) → CardReceived own datagram before after r
    → (r ≡ 0) ⊎ (r ≡ 13) → Said before after

-- card.h, "its length (2), how many of its fragments are not held (2)": at most 8,192 and 256, neither is cut off
abbrev pub ReceiptWhole : Type 0
ReceiptWhole =
    (own : Option Address) (s : State) (datagram out : List ℕ) (y : Reception) → Step own s datagram out y
    → (l m : ℕ) (d : Option ℕ) → y.answer ≡ number_of (Ok (Delivered l m d))
    → (l ≤ most_l) × (m ≤ most_f)

-- ---- a header, read before its datagram is received

-- as many numbers as widths, and each fits so many bytes
pub data Fits : List ℕ → List ℕ → Type 0 where
  no_more : Fits [] []
  then : {w x : ℕ} {widths values : List ℕ} → x < 256 ^ w → Fits widths values → Fits (w ∷ widths) (x ∷ values)

-- clause 7.1: no field of a header is cut off where it is told, nor is its length
abbrev pub HeaderWhole : Type 0
HeaderWhole = (own : Option Address) (datagram values : List ℕ) → Bytes datagram → parse_for own datagram ≡ granted values → Fits header_widths values

-- card.h, "where the payload begins": what a receiving keeps of the datagram stands from the last figure told on, and the figure before it,
-- Plen, is how many bytes that is, to the datagram's end
abbrev pub PayloadBegins : Type 0
PayloadBegins =
    (own : Option Address) (datagram values : List ℕ) → parse_for own datagram ≡ granted values
    → (drop (get_or values 10 0) datagram ≡ payload_of datagram) × (get_or values 10 0 + get_or values 9 0 ≡ length datagram)

-- a record that is taken, and of each kind of bytes as many as a receiving asks for
pub record Ready (before : Held) : Type 0 where
  pub taken : unpack_fault before.record_bytes ≡ 0
  pub room : room_fault (table_from before.record_bytes) (length before.lent) (length before.out) ≡ 0
  pub tells : told_length receipt_widths ≤ length before.told

-- what parsing refuses for its header, with a number above 1, receiving refuses with the same number and changes nothing
abbrev pub RefusedAlike : Type 0
RefusedAlike =
    (own : Option Address) (datagram told told_afterwards : List ℕ) (n : ℕ) → CardTold header_widths (parse_for own datagram) told told_afterwards n → 1 < n
    → (before after : Held) (r : ℕ) → Ready before → Bytes before.record_bytes → CardReceived own datagram before after r
    → RefusedWith before after r n

-- ---- a filling

-- document 01, "What a promise has to say here": no second answer fits the promise of a filling, neither the block after it nor its number
abbrev pub OneFilling : Type 0
OneFilling =
    (kept : List ℕ) (f s k : ℕ) (block after after' : List ℕ) (r r' : ℕ)
    → CardFilled kept f s k block after r → CardFilled kept f s k block after' r' → (after ≡ after') × (r ≡ r')

-- ---- a walk: what it keeps between its calls

-- what the code's types say of a walk: five ends, and numbers of 64 bits; and it is not refused
pub record TypedWalk (w : Walker) : Type 0 where
  pub unrefused : w.refusal ≡ 0
  pub five : length w.ends ≡ 5
  pub small : (i : ℕ) → get_or (w.at ∷ w.depth ∷ w.ends) i 0 < 2 ^ 64

-- such a walk is opened,
abbrev pub OpensTyped : Type 0
OpensTyped = (word : Repeats) (packet names : List ℕ) → length packet < 2 ^ 64 → (opens word packet names).refusal ≡ 0 → TypedWalk (opens word packet names)

-- and a step leaves one, so that what is said of such a walk holds between any two calls:
abbrev pub StepsTyped : Type 0
StepsTyped = (packet names : List ℕ) (w : Walker) → length packet < 2 ^ 64 → TypedWalk w → TypedWalk (walk_step packet names w).next

-- what a step reads is what the last call wrote
abbrev pub ReadBack : Type 0
ReadBack = (w : Walker) → TypedWalk w → walker_from (walker_bytes_of w) ≡ w

-- whatever the 56 bytes are, a step with room for what it tells gives 43 with a list of names that opening refuses,
pub record StepNumber (names : List ℕ) (n : ℕ) : Type 0 where
  pub by_names : (names_fault names ≡ 0 → ⊥) → n ≡ 43
  pub by_items : names_fault names ≡ 0 → (n ≡ 0) ⊎ (n ≡ 30)

-- and with any other list 0 or 30
abbrev pub StepNumbers : Type 0
StepNumbers =
    (packet names walker told : List ℕ) → length walker ≡ walker_bytes → told_length step_widths ≤ length told
    → StepNumber names (refusal_in (walk_step_call packet names walker told))

-- ---- items: what is told of them

-- what C reads of an item from byte `at` of what is told on: its bits, where its value begins, the value's bytes; document 02, Item 11: where the item
-- itself begins, and its unused bits
pub record ItemRead (told : List ℕ) (at : ℕ) (i : Item) : Type 0 where
  pub bits : number_at 4 told at ≡ i.bits.0
  pub from : number_at 8 told (at + 4) ≡ i.from
  pub len : number_at 4 told (at + 12) ≡ i.len.0
  pub start : number_at 8 told (at + 16) ≡ i.start
  pub unused : number_at 1 told (at + 24) ≡ i.unused.0

-- card.h, "0 where it is in the packet, 1 where in the standing packet (1)", and the item there
abbrev pub LocatedRead : List ℕ → Result Located Refusal → Type 0
LocatedRead told (Ok (located.Packet i)) = (get_or told 0 0 ≡ 0) × ItemRead told 1 i
LocatedRead told (Ok (located.Standing i)) = (get_or told 0 0 ≡ 1) × ItemRead told 1 i
LocatedRead told (Err e) = ⊥

-- so it is of a finding that gives 0, whatever the two packets are: nothing is cut off,
abbrev pub FoundWhole : Type 0
FoundWhole =
    (word : Repeats) (packet standing : List ℕ) (name : ℕ) (before after : List ℕ) → Bytes packet → Bytes standing → length packet < 2 ^ 64
    → length standing < 2 ^ 64 → CardTold found_widths (locate_call word packet standing name) before after 0
    → LocatedRead after (locate_of word packet standing name)

-- document 02, Item 1: and of an occurrence
abbrev pub NthWhole : Type 0
NthWhole =
    (word : Repeats) (packet : List ℕ) (name number : ℕ) (before after : List ℕ) → Bytes packet → length packet < 2 ^ 64
    → CardTold found_widths (locate_nth_call word packet name number) before after 0 → LocatedRead after (locate_nth_of word packet name number)

-- card.h, "1 (1), the item's depth (1), its name (4)", and the rest of the item; or, behind the last, "zeros and, in told[18] to told[21], the bytes of
-- padding", which are fewer than an item's head
abbrev pub HandedRead : List ℕ → Result Handed ℕ → Type 0
HandedRead told (Ok (handed.Item v)) =
    (get_or told 0 0 ≡ 1) × (number_at 1 told 1 ≡ v.depth) × (number_at 4 told 2 ≡ v.item.name) × ItemRead told 6 v.item
HandedRead told (Ok (handed.End p)) = (p.0 < head) × (take (told_length step_widths) told ≡ replicate 18 0 ++ (bytes_of 4 p.0 ++ replicate 9 0))
HandedRead told (Err n) = ⊥

-- so it is of a step that gives 0, whatever the walk is
abbrev pub StepWhole : Type 0
StepWhole =
    (packet names walker walker-after told told_afterwards : List ℕ) → Bytes packet → length packet < 2 ^ 64
    → CardStepped packet names walker walker-after told told_afterwards 0 → HandedRead told_afterwards (stepped packet names walker).handed
