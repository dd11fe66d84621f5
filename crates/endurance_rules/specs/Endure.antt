-- How many lost fragments a cut stands, exactly, and what is answered of it (document 02, Item 12; the letters are those of cut_rules).
use Rattle.std.specs.Prelude.{Bool, true, false, cond, List, [], ◌∷◌, ◌++◌, ℕ, ◌+◌, ◌-◌, ◌/◌, ◌%◌, eqb, ltb, replicate, Result}
use Rattle.base_rules.specs.Answer.{Answer, answered}
use Rattle.base_rules.specs.Refusal.{told}
use Rattle.base_rules.specs.declared.Refusal.{Refusal}
use Rattle.base_rules.specs.Bounds.{most_f, parity}
use Rattle.cut_rules.specs.Plan.{plan_fault}
use Rattle.cut_rules.specs.Sizes.{n, f}
use Rattle.cut_rules.specs.declared.Settings.{Settings}
use Rattle.endurance_rules.specs.declared.Endurance.{Endurance}
use Rattle.endurance_rules.specs.declared.Losses.{Losses}

-- the greatest w with `worst n f w` at most 48: n mod f fragments take one byte more of a chunk than the others, n div f + 1. Either 48 bytes are
-- gone before these are, or what they take more is gone and each loss takes n div f of the rest
unfoldable pub stands : ℕ → ℕ → ℕ
stands n f = cond (ltb (parity / (n / f + 1)) (n % f)) (parity / (n / f + 1)) ((parity - n % f) / (n / f))

-- "For each FEC plan give the greatest number w"; "Without FEC w is 0"
unfoldable pub stands_of : Settings → ℕ → ℕ
stands_of g l = cond g.fec (stands (n l) (f g l)) 0

-- a set that is the first v fragments, as a flag for each of the 256 that there can be
unfoldable pub flagged : ℕ → List Bool
flagged v = replicate v true ++ replicate (most_f - v) false

-- "one set of w + 1 fragments": how many are in the set that is handed out, none where the plan is refused
unfoldable pub losing : Settings → ℕ → ℕ
losing g l = cond (eqb (plan_fault g l) 0) (stands_of g l + 1) 0

-- what is answered, w and f, "No new refusals beyond the sender's"; and beside it the set
unfoldable pub endure_call : Settings → ℕ → Answer × List Bool
endure_call g l = (answered (plan_fault g l) (stands_of g l ∷ f g l ∷ []), flagged (losing g l))

-- the values that the answer carries, in the same order
unfoldable pub losses_values : Losses → List ℕ
losses_values w = w.most ∷ w.f ∷ []

-- document 01's number and the values, for each case
unfoldable pub endured_number : Result Losses Refusal → Answer
endured_number r = told losses_values r

-- the same with the set beside it
abbrev pub endurance_of : Endurance → Answer × List Bool
endurance_of e = (endured_number e.answer, e.lost)
