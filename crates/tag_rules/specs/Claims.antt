-- What document 01 and document 02, Items 1 and 11, say of a reader and of a search, as claims: each is proved in proofs/Proved.antt.
use Rattle.std.specs.Prelude.{true, false, cond, ◌≡◌, List, ◌++◌, ℕ, ◌+◌, ◌≤◌, ◌<◌, length, get_or, take, replicate}
use Rattle.std.specs.Prelude.{Result, Ok, Err}
use Rattle.base_rules.specs.Refusal.{number, fault_in, refusal_of}
use Rattle.base_rules.specs.declared.Refusal.{Refusal}
use Rattle.base_rules.specs.declared.Refusal.TheVariants as refusal
use Rattle.item_rules.specs.declared.Bytes.{Bytes}
use Rattle.item_rules.specs.declared.Item.{Item}
use Rattle.item_rules.specs.declared.Repeats.{Repeats}
use Rattle.item_rules.specs.declared.Repeats.TheVariants.{Forbidden, Allowed}
use Rattle.item_rules.specs.declared.Step.{Step}
use Rattle.item_rules.specs.declared.Step.TheVariants as step
use Rattle.item_rules.specs.Item.{head, bytes_for}
use Rattle.item_rules.specs.Run.{Run, item, padding, next_of, has_name, named_in}
use Rattle.item_rules.specs.Claims.{StartsIn}
use Rattle.tag_rules.specs.declared.Hit.{Hit}
use Rattle.tag_rules.specs.declared.Located.{Located}
use Rattle.tag_rules.specs.declared.Located.TheVariants as located
use Rattle.tag_rules.specs.Find.{whole_run, check_of, locate_of, locate_nth_of, value_of}
use Rattle.tag_rules.specs.Calls.{opened_number, open_call, read_of, read_number, sought_number, located_number, ToldAlike, locate_call, locate_nth_call}
use Rattle.tag_rules.specs.Reading.{start_of, handed, stands_after, checked_run, items_of, last_of}

-- no second answer fits: two answers with the same number and values are the same answer
abbrev pub OneOpened : Type 0
OneOpened = (a b : Result ℕ Refusal) → opened_number a ≡ opened_number b → a ≡ b

-- so it is of what a reader shows, whatever number its caller handed in
abbrev pub OneRead : Type 0
OneRead = (a b : Result Step ℕ) → read_number a ≡ read_number b → a ≡ b

-- of what is told as the place of a name is, whatever refuses
abbrev pub OneAlike : Type 1
OneAlike = (E : Type 0) (l : Result Located E) (a b : Result Hit E) → ToldAlike l a → ToldAlike l b → a ≡ b

-- so it is of a search
abbrev pub OneSought : Type 0
OneSought = (a b : Result Hit Refusal) → sought_number a ≡ sought_number b → a ≡ b

-- and of where a name is
abbrev pub OneLocated : Type 0
OneLocated = (a b : Result Located Refusal) → located_number a ≡ located_number b → a ≡ b

-- "Opening a reader checks the whole packet": whatever answer fits, the reader stands at 0 and keeps what the check says
abbrev pub Opens : Type 0
Opens = (w : Repeats) (s : List ℕ) (o : Result ℕ Refusal) → opened_number o ≡ open_call w s → (start_of o ≡ 0) × (fault_in o ≡ check_of w s)

-- "hands out its items one after another. A step after the last item answers END with the count of padding bytes", for ever; a refused one
-- answers its refusal
abbrev pub InOrder : Type 0
InOrder =
    (w : Repeats) (s : List ℕ) (n : ℕ) → handed n s 0 (check_of w s) ≡ take n (items_of (checked_run w s) ++ replicate n (last_of (checked_run w s)))

-- a packet that is not refused ends with END, and 7 or fewer bytes are its padding
pub record Padded (r : Run) : Type 0 where
  pub bytes : Bytes
  pub last : last_of r ≡ Ok (step.End bytes)
  pub few : bytes.0 < head

-- every packet that is not refused does
abbrev pub Ends : Type 0
Ends = (w : Repeats) (s : List ℕ) → check_of w s ≡ 0 → Padded (whole_run s)

-- "and the reader stays there": so it does at the end,
abbrev pub StaysAtEnd : Type 0
StaysAtEnd = (s : List ℕ) (at refusal : ℕ) (p : Bytes) → read_of s at refusal ≡ Ok (step.End p) → (n : ℕ) → stands_after n s at refusal ≡ at

-- and where its packet is refused, answering the refusal
abbrev pub StaysRefused : Type 0
StaysRefused = (s : List ℕ) (at refusal : ℕ) → (refusal ≡ 0 → ⊥) → (n : ℕ)
    → (stands_after n s at refusal ≡ at) × (read_of s (stands_after n s at refusal) refusal ≡ Err refusal)

-- "a value is shown as a part of the caller's bytes": the item lies in s, from the start that it tells on (document 02, Item 11), and its value is
-- shown whole, ceil(bits / 8) bytes
pub record Shown (s : List ℕ) (i : Item) : Type 0 where
  pub starts : StartsIn s i
  pub whole : length (value_of s i) ≡ bytes_for i.bits.0

-- so is the value of an item that a reader hands out,
abbrev pub ReadShown : Type 0
ReadShown = (s : List ℕ) (at refusal : ℕ) (i : Item) → read_of s at refusal ≡ Ok (step.Item i) → Shown s i

-- and of one that a search finds, in the packet or in the standing packet
abbrev pub FoundShown : Type 0
FoundShown = (w : Repeats) (s t : List ℕ) (name : ℕ) (i : Item)
    → (locate_of w s t name ≡ Ok (located.Packet i) → Shown s i) × (locate_of w s t name ≡ Ok (located.Standing i) → Shown t i)

-- ---- document 02, Item 1: whether names may repeat

-- "31 only when repeats are forbidden": where names may repeat, no packet is refused with 31
abbrev pub NoTwice : Type 0
NoTwice = (s : List ℕ) → check_of Allowed s ≡ 31 → ⊥

-- only 31 goes: a packet that is not refused with it has the same number with either word, and gives the same to read
abbrev pub AcceptedStill : Type 0
AcceptedStill = (s : List ℕ) → (check_of Forbidden s ≡ 31 → ⊥)
    → (check_of Allowed s ≡ check_of Forbidden s) × (checked_run Allowed s ≡ checked_run Forbidden s)

-- so where neither packet is refused with 31, a name is found in the same place, or refused with the same number, with either word,
abbrev pub FoundStill : Type 0
FoundStill = (s t : List ℕ) (name : ℕ) → (check_of Forbidden s ≡ 31 → ⊥) → (check_of Forbidden t ≡ 31 → ⊥)
    → locate_of Allowed s t name ≡ locate_of Forbidden s t name

-- and so is an occurrence
abbrev pub NthStill : Type 0
NthStill = (s : List ℕ) (name number : ℕ) → (check_of Forbidden s ≡ 31 → ⊥) → locate_nth_of Allowed s name number ≡ locate_nth_of Forbidden s name number

-- one word for both packets: where the standing packet is refused by it, so is the finding;
abbrev pub StandingRefused : Type 0
StandingRefused = (w : Repeats) (s t : List ℕ) (name : ℕ) → check_of w s ≡ 0 → (check_of w t ≡ 0 → ⊥)
    → (locate_of w s t name ≡ Err (refusal_of (check_of w t))) × (number (refusal_of (check_of w t)) ≡ check_of w t)

-- where names may repeat, no finding is refused with 31, whichever packet repeats one,
abbrev pub FoundNotTwice : Type 0
FoundNotTwice = (s t : List ℕ) (name : ℕ) → locate_of Allowed s t name ≡ Err refusal.Twice → ⊥

-- and no occurrence is
abbrev pub NthNotTwice : Type 0
NthNotTwice = (s : List ℕ) (name number : ℕ) → locate_nth_of Allowed s name number ≡ Err refusal.Twice → ⊥

-- an occurrence is one of the packet's items of that name, in their order, counted from 0; beyond the last there is none, 34 ABSENT
pub record Occurs (w : Repeats) (s : List ℕ) (name number : ℕ) : Type 0 where
  pub below : number < length (named_in name (whole_run s)) → (i : Item)
      → locate_nth_of w s name number ≡ Ok (located.Packet (get_or (named_in name (whole_run s)) number i))
  pub beyond : length (named_in name (whole_run s)) ≤ number → locate_nth_of w s name number ≡ Err refusal.Absent

-- so it is of every packet that is not refused,
abbrev pub NthBeyond : Type 0
NthBeyond = (w : Repeats) (s : List ℕ) (name number : ℕ) → check_of w s ≡ 0 → Occurs w s name number

-- and of one that is refused no occurrence is shown
abbrev pub NthRefused : Type 0
NthRefused = (w : Repeats) (s : List ℕ) (name i : ℕ) → (check_of w s ≡ 0 → ⊥)
    → (locate_nth_of w s name i ≡ Err (refusal_of (check_of w s))) × (number (refusal_of (check_of w s)) ≡ check_of w s)

-- "finding by name shows the first": where the packet holds the name, that is its occurrence 0
abbrev pub FindsFirst : Type 0
FindsFirst = (w : Repeats) (s t : List ℕ) (name : ℕ) → check_of w t ≡ 0 → has_name name (whole_run s) ≡ true
    → locate_of w s t name ≡ locate_nth_of w s name 0

-- and where only the standing packet does, that is the standing packet's occurrence 0
abbrev pub FindsStanding : Type 0
FindsStanding = (w : Repeats) (s t : List ℕ) (name : ℕ) (i : Item) → locate_of w s t name ≡ Ok (located.Standing i) → locate_nth_of w t name 0 ≡ Ok (located.Packet i)

-- "without the standing packet", of which `locate_nth_of` takes none: a name that the packet does not hold has no occurrence
abbrev pub StandingAside : Type 0
StandingAside = (w : Repeats) (s : List ℕ) (name number : ℕ) → check_of w s ≡ 0 → has_name name (whole_run s) ≡ false
    → locate_nth_of w s name number ≡ Err refusal.Absent

-- an occurrence lies in the packet, and its value is shown whole; it is never one of a standing packet
abbrev pub NthShown : Type 0
NthShown = (w : Repeats) (s : List ℕ) (name number : ℕ) (i : Item)
    → (locate_nth_of w s name number ≡ Ok (located.Packet i) → Shown s i) × (locate_nth_of w s name number ≡ Ok (located.Standing i) → ⊥)

-- ---- document 02, Item 11: where an item began, beside what `Shown` says of it

-- "Stepping to the next item shall also give the byte at which it starts": an item that a reader hands out starts where the reader stands
abbrev pub ReadStarts : Type 0
ReadStarts = (s : List ℕ) (at refusal : ℕ) (i : Item) → read_of s at refusal ≡ Ok (step.Item i) → i.start ≡ at

-- "finding also says which": whatever answer of a search fits, its item starts in the packet that it names,
abbrev pub SoughtStarts : Type 0
SoughtStarts = (w : Repeats) (s t : List ℕ) (name : ℕ) (h : Hit) → sought_number (Ok h) ≡ locate_call w s t name
    → StartsIn (cond h.standing t s) h.item

-- and an occurrence in the packet
abbrev pub SoughtNthStarts : Type 0
SoughtNthStarts = (w : Repeats) (s : List ℕ) (name number : ℕ) (h : Hit) → sought_number (Ok h) ≡ locate_nth_call w s name number
    → (h.standing ≡ false) × StartsIn s h.item

-- a run from byte `at` to byte `end` without a gap: the first item starts at `at`, each next where the one before ends, and what is left behind the
-- last is the padding, 7 bytes or fewer
pub data Row (end : ℕ) : ℕ → Run → Type 0 where
  next : {at : ℕ} {i : Item} {r : Run} → i.start ≡ at → Row end (next_of i) r → Row end at (item i r)
  rest : {at p : ℕ} → at + p ≡ end → p < head → Row end at (padding p)

-- such is every packet that is not refused, from its first byte to its last
abbrev pub InARow : Type 0
InARow = (w : Repeats) (s : List ℕ) → check_of w s ≡ 0 → Row (length s) 0 (whole_run s)
