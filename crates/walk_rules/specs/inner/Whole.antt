-- What the whole walk's private functions answer; no promise leans on it.
use Rattle.std.specs.Prelude.{Bool, cond, List, [], ℕ, zero, suc, ◌+◌}
use Rattle.base_rules.specs.Tests.{among}
use Rattle.item_rules.specs.declared.Item.{Item}
use Rattle.item_rules.specs.declared.Repeats.{Repeats}
use Rattle.item_rules.specs.Run.{next_of, run_of, or_else}
use Rattle.walk_rules.specs.Walk.{walk_fault, tour_at, refusal}

-- an item's part in a walk's refusal: its own fault, else that of its contents, with so many levels left
unfoldable pub item_refusal : Repeats → ℕ → List ℕ → List ℕ → ℕ → Bool → Item → ℕ
item_refusal word zero s cs d before i = walk_fault cs d before i
item_refusal word (suc levels) s cs d before i =
    or_else (walk_fault cs d before i) (cond (among i.name cs) (refusal (tour_at word levels s cs (d + 1) [] (run_of s i.from (next_of i)))) 0)
