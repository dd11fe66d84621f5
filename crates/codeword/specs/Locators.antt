-- Sums over positions of a word. A position has a locator X, which is α^n for the coefficient of x^n (clause 7.3.1), and a value Y.
use Rattle.std.specs.Prelude.{◌≡◌, List, [], ◌∷◌, ℕ, ◌<◌}
use Rattle.field_rules.specs.Field.{◌⊕◌, ◌⊗◌, pow}

-- x is none of the list
abbrev pub Apart : ℕ → List ℕ → Type 0
Apart x [] = Unit {0}
Apart x (y ∷ ys) = (y ≡ x → ⊥) × Apart x ys

-- no number stands twice
abbrev pub Distinct : List ℕ → Type 0
Distinct [] = Unit {0}
Distinct (x ∷ xs) = Apart x xs × Distinct xs

-- no number is 0
abbrev pub Positive : List ℕ → Type 0
Positive [] = Unit {0}
Positive (x ∷ xs) = (0 < x) × Positive xs

-- Σ Y_i X_i^j over the locators xs and their values ys
unfoldable pub sum_at : List ℕ → List ℕ → ℕ → ℕ
sum_at [] ys j = 0
sum_at (x ∷ xs) [] j = 0
sum_at (x ∷ xs) (y ∷ ys) j = y ⊗ pow x j ⊕ sum_at xs ys j
