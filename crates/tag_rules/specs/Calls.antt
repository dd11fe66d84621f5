-- What the calls on a packet answer; document 01, "Numbers given back", has the numbers.
use Rattle.std.specs.Prelude.{cond, not, ◌||◌, List, [], ◌∷◌, ℕ, eqb, leb, length, ◌≡◌, Ok}
use Rattle.base_rules.specs.Answer.{Answer, answered}
use Rattle.std.specs.Prelude.{Result, Err}
use Rattle.base_rules.specs.Refusal.{told, numbered, told_number}
use Rattle.base_rules.specs.declared.Refusal.{Refusal}
use Rattle.base_rules.specs.Tests.{first, bit}
use Rattle.item_rules.specs.declared.Repeats.{Repeats}
use Rattle.item_rules.specs.declared.Step.{Step}
use Rattle.item_rules.specs.Item.{step_in, values_of, values_in, overrun_in, step_values}
use Rattle.item_rules.specs.Run.{next_of, on_step, or_else, has_name, first_values, named_in, nth_values}
use Rattle.tag_rules.specs.declared.Hit.{Hit}
use Rattle.tag_rules.specs.declared.Located.{Located}
use Rattle.tag_rules.specs.declared.Located.TheVariants as located
use Rattle.tag_rules.specs.Find.{whole_run, check_of}

-- document 01's number and values for each case: a reader opens at a position
unfoldable pub opened_number : Result ℕ Refusal → Answer
opened_number r = told (λ at. at ∷ []) r

-- document 01: opening checks the whole packet before the first item is handed out; a reader begins at 0
unfoldable pub open_call : Repeats → List ℕ → Answer
open_call w s = answered (check_of w s) (0 ∷ [])

-- document 01: what a reader at a position hands out; `refusal` is the number with which its packet was refused, 0 for none. It is the caller's, so
-- any number may stand there
unfoldable pub read_of : List ℕ → ℕ → ℕ → Result Step ℕ
read_of s at refusal = cond (eqb refusal 0) (numbered (step_in s at (length s))) (Err refusal)

-- document 01's number and values for each case
unfoldable pub read_number : Result Step ℕ → Answer
read_number r = told_number values_in r

-- the same as number and values: the refusal of its opening comes first, then 30 OVERRUN where it stands
unfoldable pub read_call : List ℕ → ℕ → ℕ → Answer
read_call s at refusal = answered (or_else refusal (overrun_in s at (length s))) (step_values s at (length s))

-- document 01: what a reader just opened hands out, as number and values: the whole packet was checked, so nothing else is refused
unfoldable pub first_call : Repeats → List ℕ → Answer
first_call w s = answered (check_of w s) (step_values s 0 (length s))

-- document 01: where it stands then: behind the item; at the end, or refused, it stays
unfoldable pub after_of : List ℕ → ℕ → ℕ → ℕ
after_of s at refusal = on_step (read_of s at refusal) next_of (λ p. at) (λ n. at)

-- document 01's number and values for each case; document 02, Item 11, "finding also says which": 0 for the packet and 1 for the standing packet, and
-- what the item there tells
unfoldable pub sought_number : Result Hit Refusal → Answer
sought_number r = told (λ h. bit h.standing ∷ values_of h.item) r

-- document 01's values for each case: 0 for the packet and 1 for the standing packet, and what the item there tells,
unfoldable pub values_at : Located → List ℕ
values_at (located.Packet i) = 0 ∷ values_of i
values_at (located.Standing i) = 1 ∷ values_of i

-- and with the number of a refusal
unfoldable pub located_number : Result Located Refusal → Answer
located_number r = told values_at r

-- a search tells what the place of a name tells, and is refused as that is: with a refusal of any kind, since a caller may hand in its own
abbrev pub ToldAlike : {E : Type 0} → Result Located E → Result Hit E → Type 0
ToldAlike (Ok l) (Ok h) = bit h.standing ∷ values_of h.item ≡ values_at l
ToldAlike (Err e) (Err n) = n ≡ e
ToldAlike (Ok l) (Err n) = ⊥
ToldAlike (Err e) (Ok h) = ⊥

-- document 01: the number with which a search is refused: the packet's fault, then the standing packet's; 34 ABSENT "comes after all of them"
unfoldable pub locate_fault : Repeats → List ℕ → List ℕ → ℕ → ℕ
locate_fault w s t name =
    or_else (check_of w s) (or_else (check_of w t) (first ((not (has_name name (whole_run s) || has_name name (whole_run t)), 34) ∷ [])))

-- document 01: what is told of the name: the first item of the first packet that holds it
unfoldable pub locate_values : List ℕ → List ℕ → ℕ → List ℕ
locate_values s t name = cond (has_name name (whole_run s)) (0 ∷ first_values name (whole_run s)) (1 ∷ first_values name (whole_run t))

-- document 01: where a name is, as number and values
unfoldable pub locate_call : Repeats → List ℕ → List ℕ → ℕ → Answer
locate_call w s t name = answered (locate_fault w s t name) (locate_values s t name)

-- document 02, Item 1: the packet's fault; then "34 also for an occurrence beyond the last": the packet has no more items of that name than that number
unfoldable pub nth_fault : Repeats → List ℕ → ℕ → ℕ → ℕ
nth_fault w s name number = or_else (check_of w s) (first ((leb (length (named_in name (whole_run s))) number, 34) ∷ []))

-- document 02, Item 1: where an occurrence is, as number and values: in the packet, which is 0
unfoldable pub locate_nth_call : Repeats → List ℕ → ℕ → ℕ → Answer
locate_nth_call w s name number = answered (nth_fault w s name number) (0 ∷ nth_values name number (whole_run s))
