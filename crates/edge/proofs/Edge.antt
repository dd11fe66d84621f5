-- C1: the starred rows of document 01, by citation and by computing. Assumes nothing.
use mathlib.Core.Path.{◌≡◌, refl, sym, ap, ap₂, ◌∙◌}
use mathlib.Core.List.{List, [], ◌∷◌, ◌++◌, map}
use Prim.Native.Nat.{ℕ}
use Rattle.cut_rules.specs.Edge.{Row, rows}
use Rattle.cut_rules.proofs.Proved.{edge_rows, any_three, no_four}
use Rattle.field_rules.specs.Field.{◌⊕◌, times2, alpha}
use Rattle.edge.specs.Starred.{powers, starred, C1}

map-append : (f : Row → List ℕ) (xs ys : List Row) → map f (xs ++ ys) ≡ map f xs ++ map f ys
map-append f [] ys = refl
map-append f (x ∷ xs) ys = ap (λ (l : List (List ℕ)). f x ∷ l) (map-append f xs ys)

power-rows : map (λ (r : Row). r.gives) powers ≡ map (λ (r : Row). r.says) powers
unfolding powers alpha times2 ◌⊕◌
power-rows = refl

pub c1 : C1
unfolding starred
c1 =
    record {
      table = map-append (λ (r : Row). r.gives) rows powers
          ∙ ap₂ (λ (a b : List (List ℕ)). a ++ b) edge_rows power-rows
          ∙ sym (map-append (λ (r : Row). r.says) rows powers);
      three = any_three;
      four = no_four;
    }
