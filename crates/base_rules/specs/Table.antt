-- A list by the rule of its elements, as document 01 has tables and cells.
use Rattle.std.specs.Prelude.{List, [], ◌∷◌, ℕ, zero, suc}

-- rule a, rule (a + 1), .., n of them
unfoldable pub table : (ℕ → ℕ) → ℕ → ℕ → List ℕ
table rule a zero = []
table rule a (suc n) = rule a ∷ table rule (suc a) n
