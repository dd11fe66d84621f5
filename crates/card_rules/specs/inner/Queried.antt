-- The answers of a query as the functions that tell them take them apart.
use Rattle.std.specs.Prelude.{List, [], ◌∷◌, ◌++◌, ℕ, Result}
use Rattle.base_rules.specs.Answer.{Answer}
use Rattle.base_rules.specs.Refusal.{told}
use Rattle.base_rules.specs.declared.Refusal.{Refusal}
use Rattle.places_rules.specs.Places.{free, open_now, delivered, spoiled}
use Rattle.receiver_rules.specs.declared.Seen.{Seen}
use Rattle.receiver_rules.specs.declared.Seen.TheVariants as seen
use Rattle.receiver_rules.specs.declared.Shown.{Shown}

-- what is told of a place that `query` shows
unfoldable pub seen_told : Seen → List ℕ
seen_told seen.Free = free ∷ 0 ∷ []
seen_told (seen.Open n) = open_now ∷ n ∷ []
seen_told (seen.Delivered n) = delivered ∷ n ∷ []
seen_told (seen.Spoiled n) = spoiled ∷ n ∷ []

-- that of all four
unfoldable pub shown_told : Shown → List ℕ
shown_told p = seen_told p.first ++ seen_told p.second ++ seen_told p.third ++ seen_told p.fourth

-- the answer of `query` with what is told of it
unfoldable pub queried_in : Result Shown Refusal → Answer
queried_in r = told shown_told r
