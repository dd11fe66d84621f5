-- The answer of the calls that only write, and copying into a part of a buffer (document 01, "Numbers given back").
use Rattle.std.specs.Prelude.{List, [], ◌∷◌, ℕ, ◌+◌, ltb, length}
use Rattle.base_rules.specs.Tests.{first}
use Rattle.base_rules.specs.Answer.{Answer, Outcome, settled}
use Rattle.base_rules.specs.Bytes.{splice}
use Rattle.std.specs.Prelude.{Result}
use Rattle.base_rules.specs.Refusal.{told}
use Rattle.base_rules.specs.declared.Refusal.{Refusal}

-- document 01's number for each case
unfoldable pub number_of : Result (Unit {0}) Refusal → Answer
number_of r = told (λ u. []) r

-- 1 ROOM where s, laid down from `at` on, would pass the end of d
unfoldable pub put_fault : List ℕ → ℕ → List ℕ → ℕ
put_fault d at s = first ((ltb (length d) (at + length s), 1) ∷ [])

-- else s spliced in
unfoldable pub put_of : List ℕ → ℕ → List ℕ → Outcome
put_of d at s = settled (put_fault d at s) [] (splice d at s) d
