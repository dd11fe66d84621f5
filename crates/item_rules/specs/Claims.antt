-- What holds of the answers of a step and of a search, of the faults of a run, and of where an item starts, as claims (clause 5; document 02, Items 1
-- and 11): the proofs are in proofs/Proved.antt.
use Rattle.std.specs.Prelude.{true, List, ◌∷◌, ◌++◌, ◌≡◌, ℕ, ◌+◌, ◌*◌, ◌≤◌, ◌<◌, length, take, drop}
use Rattle.std.specs.Prelude.{Result, Ok, Option}
use Rattle.base_rules.specs.Bytes.{Bytes, bytes_of}
use Rattle.base_rules.specs.declared.Refusal.{Refusal}
use Rattle.base_rules.specs.Tests.{among}
use Rattle.item_rules.specs.declared.Item.{Item}
use Rattle.item_rules.specs.declared.Repeats.TheVariants.{Forbidden, Allowed}
use Rattle.item_rules.specs.declared.Step.{Step}
use Rattle.item_rules.specs.declared.Step.TheVariants as step
use Rattle.item_rules.specs.Item.{head, item_at, step_in, number_of}
use Rattle.item_rules.specs.Run.{Run, item, padding, refused, run_of, first_of, nth_of, found_number, dmy, fault_of, or_else, faults_of}

-- no second answer fits: two steps with the same number and values are the same step
abbrev pub OneStep : Type 0
OneStep = (a b : Result Step Refusal) → number_of a ≡ number_of b → a ≡ b

-- so it is of what a search finds
abbrev pub OneFound : Type 0
OneFound = (a b : Option Item) → found_number a ≡ found_number b → a ≡ b

-- document 02, Item 1, "finding by name shows the first", "counted from 0": in every run that is occurrence 0
abbrev pub FirstIsNth : Type 0
FirstIsNth = (name : ℕ) (r : Run) → first_of name r ≡ nth_of name 0 r

-- document 02, Item 1, "Where they may not, all stays as it was": an item's own fault comes first, 31 for a name seen, and then what is behind it;
-- at the end there is none, but for an item that is refused
pub record Before (seen : List ℕ) : Type 0 where
  pub at_item : (i : Item) (r : Run)
      → faults_of Forbidden seen (item i r) ≡ or_else (fault_of (among i.name seen) i) (faults_of Forbidden (i.name ∷ seen) r)
  pub at_end : (n : ℕ) → (faults_of Forbidden seen (padding n) ≡ 0) × (faults_of Forbidden seen (refused n) ≡ n)

-- so it is, whatever names were seen
abbrev pub AsItWas : Type 0
AsItWas = (seen : List ℕ) → Before seen

-- document 01, 31 TWICE: where repeats are forbidden, an item is refused whose name has stood before, unless it is "*dmy"
abbrev pub Twice : Type 0
Twice = (seen : List ℕ) (i : Item) (r : Run) → (i.name ≡ dmy → ⊥) → among i.name seen ≡ true → faults_of Forbidden seen (item i r) ≡ 31

-- document 02, Item 1, "31 only when repeats are forbidden": where names may repeat, no run of a packet has that number
abbrev pub NeverTwice : Type 0
NeverTwice = (s : List ℕ) (at end : ℕ) (seen : List ℕ) → faults_of Allowed seen (run_of s at end) ≡ 31 → ⊥

-- ---- document 02, Item 11: where an item began

-- "the byte at which it starts, in the lent packet that holds it": the bytes of s from there on spell the item, and its head and value end within s
pub record StartsIn (s : List ℕ) (i : Item) : Type 0 where
  pub spelt : item_at s i.start ≡ i
  pub inside : i.start + head + i.len.0 ≤ length s

-- so it is of every item that a step hands out, in s or in a packet that s holds: it starts where the step was made
abbrev pub StartsAt : Type 0
StartsAt = (s : List ℕ) (at end : ℕ) (i : Item) → end ≤ length s → step_in s at end ≡ Ok (step.Item i) → StartsIn s i × (i.start ≡ at)

-- so the bytes from its start on, 8 and those of its value, are the four of its name, the four of its bits, and its value: what a display marks
abbrev pub RawItem : Type 0
RawItem = (s : List ℕ) (i : Item) → Bytes s → StartsIn s i
    → take (head + i.len.0) (drop i.start s) ≡ bytes_of 4 i.name ++ (bytes_of 4 i.bits.0 ++ take i.len.0 (drop i.from s))

-- "how many unused bits its last byte has": with them its bits fill its bytes, and they are fewer than a byte has; so an item of no bits has none
pub record Unused (i : Item) : Type 0 where
  pub fill : 8 * i.len.0 ≡ i.bits.0 + i.unused.0
  pub few : i.unused.0 < 8

-- so it is of every item that starts in a packet
abbrev pub UnusedIs : Type 0
UnusedIs = (s : List ℕ) (i : Item) → StartsIn s i → Unused i
