-- Document 01, "On each side of the edge": what is marked * is one table under one statement.
use Rattle.std.specs.Prelude.{◌≡◌, List, [], ◌∷◌, ◌++◌, map}
use Rattle.cut_rules.specs.Edge.{Row, row, rows}
use Rattle.cut_rules.specs.Claims.{AnyThree, NoFour}
use Rattle.field_rules.specs.Field.{alpha}

-- α^8 = 29, α^9 = 58
unfoldable pub powers : List Row
powers = row (alpha 8 ∷ alpha 9 ∷ []) (29 ∷ 58 ∷ []) ∷ []

-- the rows of sizes and of α
unfoldable pub starred : List Row
starred = rows ++ powers

-- C1: in every row the definitions give what the document says; at l 415 and m 2 any three lost still rebuild, and no four do
pub record C1 : Type 0 where
  pub table : map (λ (r : Row). r.gives) starred ≡ map (λ (r : Row). r.says) starred
  pub three : AnyThree
  pub four : NoFour
