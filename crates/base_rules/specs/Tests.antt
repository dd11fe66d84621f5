-- Tests: refusals in order, by a list of tests with document 01's numbers; a test as a number; a number looked for in a list.
use Rattle.std.specs.Prelude.{Bool, false, cond, ◌||◌, List, [], ◌∷◌, ℕ, eqb}

-- the number of the first test that is true, 0 where none is
unfoldable pub first : List (Bool × ℕ) → ℕ
first [] = 0
first (t ∷ ts) = cond t.0 t.1 (first ts)

-- a flag as a number: 1 where it is set, else 0
abbrev pub bit : Bool → ℕ
bit b = cond b 1 0

-- whether n is one of a list
unfoldable pub among : ℕ → List ℕ → Bool
among n [] = false
among n (m ∷ ms) = eqb m n || among n ms
