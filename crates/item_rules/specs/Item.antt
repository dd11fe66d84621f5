-- A TAG item (clause 5.2): a name of 4 bytes, a length in bits of 4 bytes, and the value.
use Rattle.std.specs.Prelude.{cond, not, ◌&&◌, List, [], ◌∷◌, ℕ, ◌+◌, ◌-◌, ◌*◌, ltb, leb}
use Rattle.std.specs.Prelude.{Result, Ok, Err}
use Rattle.base_rules.specs.Answer.{Answer, answered}
use Rattle.base_rules.specs.Refusal.{told}
use Rattle.base_rules.specs.declared.Refusal.{Refusal}
use Rattle.base_rules.specs.declared.Refusal.TheVariants as refusal
use Rattle.base_rules.specs.Bytes.{number_at}
use Rattle.base_rules.specs.Round.{ceil}
use Rattle.base_rules.specs.Tests.{first}
use Rattle.item_rules.specs.declared.Item.{Item}
use Rattle.item_rules.specs.declared.Step.{Step}
use Rattle.item_rules.specs.declared.Step.TheVariants as step

-- clause 5.2: the bytes before a value, its name and its length
abbrev pub head : ℕ
head = 8

-- clause 5.2: the bytes of a value of so many bits
unfoldable pub bytes_for : ℕ → ℕ
bytes_for bits = ceil bits 8

-- clause 5.2: the low bits of its last byte that a value of so many bits leaves unused; one of no bits has no last byte, and leaves none
unfoldable pub unused_of : ℕ → ℕ
unused_of bits = 8 * bytes_for bits - bits

-- clause 5.2: the item whose name begins at `at`; document 02, Item 11: there it starts
unfoldable pub item_at : List ℕ → ℕ → Item
item_at s at = record {
  name = number_at 4 s at;
  bits = record { 0 = number_at 4 s (at + 4) };
  from = at + head;
  len = record { 0 = bytes_for (number_at 4 s (at + 4)) };
  start = at;
  unused = record { 0 = unused_of (number_at 4 s (at + 4)) };
}

-- document 01, "TAG layer": what stands at `at` in a packet that ends before `end`. 7 or fewer bytes are padding; else an item follows, which
-- must not pass the end: 30 OVERRUN
unfoldable pub step_in : List ℕ → ℕ → ℕ → Result Step Refusal
step_in s at end =
    cond (ltb (end - at) head) (Ok (step.End (record { 0 = end - at })))
    (cond (leb (head + bytes_for (number_at 4 s (at + 4))) (end - at)) (Ok (step.Item (item_at s at))) (Err refusal.Overrun))

-- what an item tells: its name, its bits, and its value's place and bytes; document 02, Item 11: its start and its unused bits
abbrev pub values_of : Item → List ℕ
values_of i = i.name ∷ i.bits.0 ∷ i.from ∷ i.len.0 ∷ i.start ∷ i.unused.0 ∷ []

-- document 01's values for each case,
unfoldable pub values_in : Step → List ℕ
values_in (step.Item i) = values_of i
values_in (step.End p) = p.0 ∷ []

-- and with the number of a refusal
unfoldable pub number_of : Result Step Refusal → Answer
number_of r = told values_in r

-- document 01, 30 OVERRUN: 8 bytes or more remain, so an item must follow, and it passes the end; 0 where it does not
unfoldable pub overrun_in : List ℕ → ℕ → ℕ → ℕ
overrun_in s at end =
    first ((not (ltb (end - at) head) && not (leb (head + bytes_for (number_at 4 s (at + 4))) (end - at)), 30) ∷ [])

-- document 01: what is told where nothing is refused: the count of padding bytes where 7 or fewer remain, else what the item tells
unfoldable pub step_values : List ℕ → ℕ → ℕ → List ℕ
step_values s at end = cond (ltb (end - at) head) ((end - at) ∷ []) (values_of (item_at s at))

-- a step as document 01's number and values
unfoldable pub step_call : List ℕ → ℕ → ℕ → Answer
step_call s at end = answered (overrun_in s at end) (step_values s at end)
