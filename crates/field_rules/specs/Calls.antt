-- What the calls that can refuse answer (document 01, "Numbers given back").
use Rattle.std.specs.Prelude.{[], ◌∷◌, ℕ, eqb, Result}
use Rattle.base_rules.specs.Tests.{first}
use Rattle.base_rules.specs.Answer.{Answer, answered}
use Rattle.base_rules.specs.Refusal.{told}
use Rattle.base_rules.specs.declared.Refusal.{Refusal}
use Rattle.field_rules.specs.Field.{◌⊗◌, inv, log_of}

-- document 01's number for each case
unfoldable pub number_of : Result ℕ Refusal → Answer
number_of r = told (λ x. x ∷ []) r

-- a divided by b: document 01's 44 where b is 0
unfoldable pub quotient_of : ℕ → ℕ → Answer
quotient_of a b = answered (first ((eqb b 0, 44) ∷ [])) (a ⊗ inv b ∷ [])

-- the logarithm of a: document 01's 44 where a is 0
unfoldable pub logarithm_of : ℕ → Answer
logarithm_of a = answered (first ((eqb a 0, 44) ∷ [])) (log_of a ∷ [])
