-- The step walk: the same items, "one after another" (document 01, "TAG layer").
use Rattle.std.specs.Prelude.{cond, ◌&&◌, List, [], ◌∷◌, ℕ, zero, suc, ◌+◌, ◌-◌, min, eqb, ltb, length, get_or, set}
use Rattle.std.specs.Prelude.{Result, Ok, Err}
use Rattle.base_rules.specs.Answer.{Answer, answered}
use Rattle.base_rules.specs.Refusal.{number, told_number}
use Rattle.base_rules.specs.Tests.{among}
use Rattle.item_rules.specs.declared.Item.{Item}
use Rattle.item_rules.specs.declared.Repeats.{Repeats}
use Rattle.item_rules.specs.Item.{head, item_at, step_in, values_of, overrun_in}
use Rattle.item_rules.specs.Run.{next_of, on_step, or_else}
use Rattle.walk_rules.specs.declared.Handed.{Handed}
use Rattle.walk_rules.specs.declared.Handed.TheVariants as handed
use Rattle.walk_rules.specs.declared.Walker.{Walker}
use Rattle.walk_rules.specs.declared.Walked.{Walked}
use Rattle.walk_rules.specs.Names.{deepest, names_of, names_fault}
use Rattle.walk_rules.specs.Walk.{refusal, walk_of}

-- document 01's values for each case: an item has its depth first
unfoldable pub values_out : Handed → List ℕ
values_out (handed.Item v) = v.depth ∷ values_of v.item
values_out (handed.End p) = p.0 ∷ []

-- and with the number of a refusal, which is the walker's own where it has one: it is the caller's, so any number may stand there
unfoldable pub handed_number : Result Handed ℕ → Answer
handed_number r = told_number values_out r

-- document 01: opening a walk checks the whole packet; the walk begins at the outer packet's start, or is refused
unfoldable pub opens : Repeats → List ℕ → List ℕ → Walker
opens word s l = record { refusal = refusal (walk_of word s l); at = 0; depth = 0; ends = length s ∷ 0 ∷ 0 ∷ 0 ∷ 0 ∷ [] }

-- where a walk goes on after an item at depth d: in a container's value, or behind the item
unfoldable pub goes_on : List ℕ → ℕ → List ℕ → Item → Walker
goes_on cs d ends i =
    cond (ltb d deepest && among i.name cs)
    (record { refusal = 0; at = i.from; depth = d + 1; ends = set ends (d + 1) (next_of i) })
    (record { refusal = 0; at = next_of i; depth = d; ends = ends })

-- the end of the packet of depth d, within s
unfoldable pub end_of : List ℕ → List ℕ → ℕ → ℕ
end_of s ends d = min (get_or ends d 0) (length s)

-- what is handed out at `at`, at depth d, and where the walk then stands; at the end of an inner packet it goes on behind the container
unfoldable pub step_from : List ℕ → List ℕ → ℕ → ℕ → List ℕ → Walked
step_from s cs at zero ends =
    on_step (step_in s at (end_of s ends 0))
    (λ i. record { handed = Ok (handed.Item (record { depth = 0; item = i })); next = goes_on cs 0 ends i })
    (λ p. record { handed = Ok (handed.End (record { 0 = p })); next = record { refusal = 0; at = at; depth = 0; ends = ends } })
    (λ e. record { handed = Err (number e); next = record { refusal = 0; at = at; depth = 0; ends = ends } })
step_from s cs at (suc d) ends =
    on_step (step_in s at (end_of s ends (suc d)))
    (λ i. record { handed = Ok (handed.Item (record { depth = suc d; item = i })); next = goes_on cs (suc d) ends i })
    (λ p. step_from s cs (end_of s ends (suc d)) d ends)
    (λ e. record { handed = Err (number e); next = record { refusal = 0; at = at; depth = suc d; ends = ends } })

-- the number with which a step is refused wherever it stands: its walk's own; else, document 01, "Walks check the container list first"
unfoldable pub step_fault : List ℕ → Walker → ℕ
step_fault l w = or_else w.refusal (names_fault l)

-- a step: where it is refused so, it answers the number and stays
unfoldable pub walk_step : List ℕ → List ℕ → Walker → Walked
walk_step s l w =
    cond (eqb (step_fault l w) 0)
    (step_from s (names_of l) w.at (min w.depth deepest) w.ends)
    (record { handed = Err (step_fault l w); next = w })

-- ---- a step as document 01's number and values

-- document 01, "outer items come before their contents, which follow at once": the position and the depth of what a step hands out;
-- from the end of an inner packet it goes on behind the container, one depth up
unfoldable pub comes_to : List ℕ → ℕ → ℕ → List ℕ → ℕ × ℕ
comes_to s at zero ends = (at, 0)
comes_to s at (suc d) ends = cond (ltb (end_of s ends (suc d) - at) head) (comes_to s (end_of s ends (suc d)) d ends) (at, suc d)

-- document 01, 30 OVERRUN: the item there passes the end of its packet
unfoldable pub overrun_at : List ℕ → List ℕ → ℕ × ℕ → ℕ
overrun_at s ends p = overrun_in s p.0 (end_of s ends p.1)

-- document 01, "END with the count of padding bytes", or the item's depth and what it tells
unfoldable pub handed_values : List ℕ → List ℕ → ℕ × ℕ → List ℕ
handed_values s ends p =
    cond (ltb (end_of s ends p.1 - p.0) head) ((end_of s ends p.1 - p.0) ∷ []) (p.1 ∷ values_of (item_at s p.0))

-- document 01, "hands out its items one after another": where the step of a walk comes to
unfoldable pub place_of : List ℕ → Walker → ℕ × ℕ
place_of s w = comes_to s w.at (min w.depth deepest) w.ends

-- document 01: the number with which it is refused: wherever it stands, else where it comes to; and else its values
unfoldable pub walk_call : List ℕ → List ℕ → Walker → Answer
walk_call s l w = answered (or_else (step_fault l w) (overrun_at s w.ends (place_of s w))) (handed_values s w.ends (place_of s w))
