-- What `query` and `clear` answer (document 01, "The four places": "One query tells number and condition of all four").
use Rattle.std.specs.Prelude.{cond, List, [], ◌∷◌, ◌++◌, ℕ, eqb, Result}
use Rattle.base_rules.specs.Answer.{Answer, answered}
use Rattle.base_rules.specs.Refusal.{told}
use Rattle.base_rules.specs.declared.Refusal.{Refusal}
use Rattle.base_rules.specs.Bounds.{most_l}
use Rattle.places_rules.specs.declared.Place.{Place}
use Rattle.places_rules.specs.declared.Table.{Table}
use Rattle.places_rules.specs.Places.{free, open_now, delivered, spoiled, fresh_table, place_at, key_in}
use Rattle.receiver_rules.specs.Promise.{room_fault}
use Rattle.receiver_rules.specs.declared.Seen.{Seen}
use Rattle.receiver_rules.specs.declared.Seen.TheVariants as seen
use Rattle.receiver_rules.specs.declared.Shown.{Shown}

-- what is shown of a place: a free one has no number
unfoldable pub shown_of : Place → List ℕ
shown_of p = cond (eqb p.condition free) (free ∷ []) (p.condition ∷ key_in p ∷ [])

-- "query and clearing check 14, then 1", where no packet buffer is lent and none is too small; else condition and number of all four places
unfoldable pub query_call : Table → ℕ → Answer
query_call t lent = answered (room_fault t lent most_l) (shown_of (place_at t 0) ++ shown_of (place_at t 1) ++ shown_of (place_at t 2)
    ++ shown_of (place_at t 3))

-- the values of what is shown
unfoldable pub seen_values : Seen → List ℕ
seen_values seen.Free = free ∷ []
seen_values (seen.Open n) = open_now ∷ n ∷ []
seen_values (seen.Delivered n) = delivered ∷ n ∷ []
seen_values (seen.Spoiled n) = spoiled ∷ n ∷ []

-- those of all four places
abbrev pub shown_values : Shown → List ℕ
shown_values p = seen_values p.first ++ seen_values p.second ++ seen_values p.third ++ seen_values p.fourth

-- document 01's number and values for each case
unfoldable pub queried_number : Result Shown Refusal → Answer
queried_number r = told shown_values r

-- "clearing empties all four places and leaves the lent bytes": the answer, and the record after it
unfoldable pub clear_call : Table → ℕ → Answer × Table
clear_call t lent = (answered (room_fault t lent most_l) [], cond (eqb (room_fault t lent most_l) 0) fresh_table t)
