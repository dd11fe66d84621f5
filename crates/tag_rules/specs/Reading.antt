-- A reader step by step, and what a packet gives to read (document 01, "TAG layer").
use Rattle.std.specs.Prelude.{cond, List, [], ◌∷◌, ℕ, zero, suc, eqb}
use Rattle.std.specs.Prelude.{Result, Ok, Err}
use Rattle.base_rules.specs.declared.Refusal.{Refusal}
use Rattle.item_rules.specs.declared.Repeats.{Repeats}
use Rattle.item_rules.specs.declared.Step.{Step}
use Rattle.item_rules.specs.declared.Step.TheVariants as step
use Rattle.item_rules.specs.Run.{Run, item, padding, refused}
use Rattle.tag_rules.specs.Find.{whole_run, check_of}
use Rattle.tag_rules.specs.Calls.{read_of, after_of}

-- document 01: a reader begins where its opening says, at the start where that is refused; it keeps the number of the refusal, 0 for none, which is
-- `fault_in` of its opening
abbrev pub start_of : Result ℕ Refusal → ℕ
start_of (Ok at) = at
start_of (Err n) = 0

-- document 01: what a reader at a position hands out in so many steps, one after another,
unfoldable pub handed : ℕ → List ℕ → ℕ → ℕ → List (Result Step ℕ)
handed zero s at refusal = []
handed (suc n) s at refusal = read_of s at refusal ∷ handed n s (after_of s at refusal) refusal

-- and where it stands after them
unfoldable pub stands_after : ℕ → List ℕ → ℕ → ℕ → ℕ
stands_after zero s at refusal = at
stands_after (suc n) s at refusal = stands_after n s (after_of s at refusal) refusal

-- document 01: what a packet gives to read: its run, or, where it is refused, the refusal alone
unfoldable pub checked_run : Repeats → List ℕ → Run
checked_run w s = cond (eqb (check_of w s) 0) (whole_run s) (refused (check_of w s))

-- the items of a run, in order,
unfoldable pub items_of : Run → List (Result Step ℕ)
items_of (item i r) = Ok (step.Item i) ∷ items_of r
items_of (padding n) = []
items_of (refused n) = []

-- and what follows them: END with the count of padding bytes, or the refusal
unfoldable pub last_of : Run → Result Step ℕ
last_of (item i r) = last_of r
last_of (padding n) = Ok (step.End (record { 0 = n }))
last_of (refused n) = Err n
