-- A packet is a run of items (document 01, "TAG layer"): what is found in it, and when an item is at fault.
use Rattle.std.specs.Prelude.{Bool, true, false, cond, not, ◌&&◌, ◌||◌, List, [], ◌∷◌, map, ℕ, zero, suc, ◌+◌, ◌-◌, ltb, eqb, get_or}
use Rattle.std.specs.Prelude.{Result, Ok, Err, Option, Some, None}
use Rattle.base_rules.specs.Answer.{Answer, granted}
use Rattle.base_rules.specs.Refusal.{number}
use Rattle.base_rules.specs.Tests.{first, among}
use Rattle.item_rules.specs.declared.Item.{Item}
use Rattle.item_rules.specs.declared.Step.{Step}
use Rattle.item_rules.specs.declared.Step.TheVariants as step
use Rattle.item_rules.specs.declared.Repeats.{Repeats}
use Rattle.item_rules.specs.declared.Repeats.TheVariants.{Forbidden, Allowed}
use Rattle.item_rules.specs.Item.{step_in, values_of}

-- items, one after another, and how they end: with so many bytes of padding, or at an item that is refused
pub data Run : Type 0 where
  item : Item → Run → Run
  padding : ℕ → Run
  refused : ℕ → Run

-- the byte after an item
abbrev pub next_of : Item → ℕ
next_of i = i.from + i.len.0

-- what is made of an item, of padding, of a refusal
abbrev pub on_step : {A E : Type 0} → Result Step E → (Item → A) → (ℕ → A) → (E → A) → A
on_step (Ok (step.Item i)) f e r = f i
on_step (Ok (step.End p)) f e r = e p.0
on_step (Err x) f e r = r x

-- the run of s from `at` to `end`, in at most so many steps
unfoldable pub run_in : ℕ → List ℕ → ℕ → ℕ → Run
run_in zero s at end = padding 0
run_in (suc steps) s at end = on_step (step_in s at end) (λ i. item i (run_in steps s (next_of i) end)) padding (λ e. refused (number e))

-- the same in as many steps as there are bytes: each takes 8 or more of them, but the last
unfoldable pub run_of : List ℕ → ℕ → ℕ → Run
run_of s at end = run_in (end - at) s at end

-- document 01, "Finding by name looks in the packet": the first item of that name
unfoldable pub first_of : ℕ → Run → Option Item
first_of name (item i r) = cond (eqb i.name name) (Some i) (first_of name r)
first_of name (padding n) = None
first_of name (refused n) = None

-- document 01, 34 ABSENT: whether the packet "holds the name"
unfoldable pub has_name : ℕ → Run → Bool
has_name name (item i r) = eqb i.name name || has_name name r
has_name name (padding n) = false
has_name name (refused n) = false

-- document 01, "the part shown": what the first item of that name tells; no values where none has it
unfoldable pub first_values : ℕ → Run → List ℕ
first_values name (item i r) = cond (eqb i.name name) (values_of i) (first_values name r)
first_values name (padding n) = []
first_values name (refused n) = []

-- document 02, Item 1: the items of that name, in their order
unfoldable pub named_in : ℕ → Run → List Item
named_in name (item i r) = cond (eqb i.name name) (i ∷ named_in name r) (named_in name r)
named_in name (padding n) = []
named_in name (refused n) = []

-- document 02, Item 1, "the occurrence of a given number, counted from 0": that one of them, or nothing
unfoldable pub nth_of : ℕ → ℕ → Run → Option Item
nth_of name number r = get_or (map Some (named_in name r)) number None

-- what it tells; no values where there is no occurrence of that number
unfoldable pub nth_values : ℕ → ℕ → Run → List ℕ
nth_values name number r = get_or (map values_of (named_in name r)) number []

-- document 01's number and values for each case: a search of a run refuses nothing; 34 ABSENT is said by the calls above it
unfoldable pub found_number : Option Item → Answer
found_number (Some i) = granted (values_of i)
found_number None = granted []

-- document 01: "*dmy" is filler
abbrev pub dmy : ℕ
dmy = 0x2A646D79

-- document 01: "*ptr"
abbrev pub ptr : ℕ
ptr = 0x2A707472

-- "has exactly 64 bits"
abbrev pub ptr_bits : ℕ
ptr_bits = 64

-- document 01: a "*ptr" whose bits are not 64
unfoldable pub bad_ptr : ℕ → ℕ → Bool
bad_ptr name bits = eqb name ptr && not (eqb bits ptr_bits)

-- document 01: an item's own fault, where its name has stood before or not: 31 TWICE for a name but "*dmy", 33 PTR
unfoldable pub fault_of : Bool → Item → ℕ
fault_of before i = first ((not (eqb i.name dmy) && before, 31) ∷ (bad_ptr i.name i.bits.0, 33) ∷ [])

-- the first number, or where it is 0 the second
abbrev pub or_else : ℕ → ℕ → ℕ
or_else m n = cond (eqb m 0) n m

-- document 02, Item 1, "31 only when repeats are forbidden": only then does it count that a name has stood before
unfoldable pub forbids : Repeats → Bool
forbids Forbidden = true
forbids Allowed = false

-- document 01: the number of the leftmost item at fault, after items of the names seen, 0 where none is; document 02, Item 1: by the caller's word
unfoldable pub faults_of : Repeats → List ℕ → Run → ℕ
faults_of w seen (item i r) = or_else (fault_of (forbids w && among i.name seen) i) (faults_of w (i.name ∷ seen) r)
faults_of w seen (padding n) = 0
faults_of w seen (refused n) = n

-- whether what was found stands before `at`
abbrev pub is_before : Option Item → ℕ → Bool
is_before (Some j) at = ltb j.from at
is_before None at = false

-- the slots of the marks by which a name is known not to have stood before
abbrev pub slots : ℕ
slots = 4093
