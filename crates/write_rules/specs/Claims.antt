-- The theorems of writing, W1 to W3, as they can be held against document 01 and document 02, Items 1 and 11. Each is proved in proofs/Proved.antt.
use Rattle.std.specs.Prelude.{◌≡◌, true, false, List, [], ◌∷◌, ◌++◌, ℕ, ◌+◌, ◌-◌, ◌%◌, ◌^◌, ◌≤◌, ◌<◌, length, get_or, take, drop}
use Rattle.std.specs.Prelude.{Ok}
use Rattle.item_rules.specs.Item.{head, bytes_for, unused_of, item_at, step_in, values_of}
use Rattle.item_rules.specs.Run.{dmy}
use Rattle.item_rules.specs.declared.Repeats.{Repeats}
use Rattle.item_rules.specs.declared.Repeats.TheVariants.{Forbidden, Allowed}
use Rattle.item_rules.specs.declared.Step.TheVariants as step
use Rattle.base_rules.specs.Answer.{granted, refused}
use Rattle.base_rules.specs.Tests.{among}
use Rattle.tag_rules.specs.Find.{check_of, locate_of, locate_nth_of, shown_by}
use Rattle.tag_rules.specs.Calls.{open_call, locate_call, locate_nth_call}
use Rattle.write_rules.specs.Write.{trimmed, item_bytes}
use Rattle.write_rules.specs.Packet.{Entry, packet_of, names_of, written_as, AllFit, Apart}

-- what an item tells that was written from byte `at` on: its name, its bits, its value's place and bytes; document 02, Item 11: its start and its unused
-- bits
unfoldable pub written_values : ℕ → ℕ → ℕ → List ℕ
written_values at name bits = name ∷ bits ∷ (at + head) ∷ bytes_for bits ∷ at ∷ unused_of bits ∷ []

-- W1: what stands at `at` in s is an item of that name, those bits and that value; document 02, Item 11: it starts there, and so many bits are unused
pub record ReadAs (s : List ℕ) (at end name bits : ℕ) (value : List ℕ) : Type 0 where
  pub item : step_in s at end ≡ Ok (step.Item (item_at s at))
  pub tells : values_of (item_at s at) ≡ written_values at name bits
  pub bytes : take (bytes_for bits) (drop (at + head) s) ≡ value

-- an item written anywhere reads as itself, and starts behind the bytes before it
abbrev pub ReadsBack : Type 0
ReadsBack = (pre rest : List ℕ) (end name bits : ℕ) (v : List ℕ) → name < 2 ^ 32 → bits < 2 ^ 32 → length v ≡ bytes_for bits
    → length pre + (head + bytes_for bits) ≤ end
    → ReadAs (pre ++ (item_bytes name bits v ++ rest)) (length pre) end name bits (trimmed bits v)

-- W2: where repeats are forbidden, a packet of written items with no name but "*dmy" twice opens,
abbrev pub Opens : Type 0
Opens = (es : List Entry) (pad : List ℕ) → AllFit es → Apart es → length pad ≤ 7 → open_call Forbidden (packet_of es pad) ≡ granted (0 ∷ [])

-- document 01, 31 TWICE: and one in which such items are followed by an item with a name of theirs, not "*dmy", is refused
abbrev pub RefusesTwice : Type 0
RefusesTwice = (before after : List Entry) (e : Entry) (pad : List ℕ) → AllFit (before ++ (e ∷ after)) → Apart before → length pad ≤ 7
    → (e.name ≡ dmy → ⊥) → among e.name (names_of before) ≡ true → open_call Forbidden (packet_of (before ++ (e ∷ after)) pad) ≡ refused 31

-- the first item that was written under a name, from byte `at` on, is found under it in the packet, which is 0: the search answers what it tells, and its
-- value is shown
pub record FoundAs (w : Repeats) (p standing : List ℕ) (at : ℕ) (e : Entry) : Type 0 where
  pub tells : locate_call w p standing e.name ≡ granted (0 ∷ written_values at e.name e.bits)
  pub value : shown_by p standing (locate_of w p standing e.name) ≡ trimmed e.bits e.value

-- whatever standing packet is lent beside it, if that has no item at fault
abbrev pub Finds : Type 0
Finds = (before after : List Entry) (e : Entry) (pad standing : List ℕ) → AllFit (before ++ (e ∷ after)) → Apart (before ++ (e ∷ after))
    → length pad ≤ 7 → check_of Forbidden standing ≡ 0 → among e.name (names_of before) ≡ false
    → FoundAs Forbidden (packet_of (before ++ (e ∷ after)) pad) standing (length (packet_of before [])) e

-- document 02, Item 1: where names may repeat, a packet of written items opens whatever their names are,
abbrev pub OpensRepeated : Type 0
OpensRepeated = (es : List Entry) (pad : List ℕ) → AllFit es → length pad ≤ 7 → open_call Allowed (packet_of es pad) ≡ granted (0 ∷ [])

-- and the first item that was written under a name is found under it, whether more were written or not
abbrev pub FindsRepeated : Type 0
FindsRepeated = (before after : List Entry) (e : Entry) (pad standing : List ℕ) → AllFit (before ++ (e ∷ after)) → length pad ≤ 7
    → check_of Allowed standing ≡ 0 → among e.name (names_of before) ≡ false
    → FoundAs Allowed (packet_of (before ++ (e ∷ after)) pad) standing (length (packet_of before [])) e

-- the occurrence of a number in p is the item that e was written as, from byte `at` on: the search answers what it tells, and its value is shown
pub record NthAs (w : Repeats) (p : List ℕ) (number at : ℕ) (e : Entry) : Type 0 where
  pub tells : locate_nth_call w p e.name number ≡ granted (0 ∷ written_values at e.name e.bits)
  pub value : shown_by p p (locate_nth_of w p e.name number) ≡ trimmed e.bits e.value

-- document 02, Item 1, "counted from 0": each item is the occurrence with the number of those that were written under its name before it; where
-- repeats are forbidden too, since "*dmy" may stand twice,
abbrev pub FindsNth : Type 0
FindsNth = (w : Repeats) (before after : List Entry) (e : Entry) (pad : List ℕ) → AllFit (before ++ (e ∷ after))
    → (w ≡ Forbidden → Apart (before ++ (e ∷ after))) → length pad ≤ 7
    → NthAs w (packet_of (before ++ (e ∷ after)) pad) (length (written_as e.name before)) (length (packet_of before [])) e

-- and beyond the last that was written there is none
abbrev pub NoMore : Type 0
NoMore = (w : Repeats) (es : List Entry) (name number : ℕ) (pad : List ℕ) → AllFit es → (w ≡ Forbidden → Apart es) → length pad ≤ 7
    → length (written_as name es) ≤ number → locate_nth_call w (packet_of es pad) name number ≡ refused 34

-- W3: "Unused low bits of the last byte: the sender writes zeros": it is a multiple of their power of two,
abbrev pub UnusedZero : Type 0
UnusedZero = (bits : ℕ) (v : List ℕ) → get_or (trimmed bits v) (length (trimmed bits v) - 1) 0 % 2 ^ unused_of bits ≡ 0

-- to write zeros again changes nothing,
abbrev pub TrimmedOnce : Type 0
TrimmedOnce = (bits : ℕ) (v : List ℕ) → trimmed bits (trimmed bits v) ≡ trimmed bits v

-- and a value of whole bytes is written as it is
abbrev pub WholeKept : Type 0
WholeKept = (bits : ℕ) (v : List ℕ) → bits % 8 ≡ 0 → trimmed bits v ≡ v
