-- The four places of a record gone through in order. Assumes nothing.
use mathlib.Core.Path.{◌≡◌, refl}
use mathlib.Core.Bool.{Bool, true, false, cond, ◌||◌}
use mathlib.Core.List.{List, [], ◌∷◌}
use Prim.Native.Nat.{ℕ}
use native.Mathlib.Omega.{arith}
use lib.ListN.{length, get_or}
use Rattle.std.specs.Prelude.{Some, None}
use Rattle.std.specs.Option.{unwrap_or}
use Rattle.std.specs.List.{list_any, position_from}
use Rattle.places_rules.specs.declared.Place.{Place}
use Rattle.places_rules.specs.declared.Table.{Table}
use Rattle.places_rules.specs.Places.{four, free_place, place_at, first_place}

-- the first of four tests that passes
first_of : (x y z w : Bool) (d : ℕ) → unwrap_or (cond x (Some 0) (cond y (Some 1) (cond z (Some 2) (cond w (Some 3) None)))) d
    ≡ cond x 0 (cond y 1 (cond z 2 (cond w 3 d)))
first_of true y z w d = refl
first_of false true z w d = refl
first_of false false true w d = refl
first_of false false false true d = refl
first_of false false false false d = refl

first_within : (test : Place → Bool) (l : List Place) (d : ℕ) → length l ≡ four
    → unwrap_or (position_from test 0 l) d ≡ first_place (λ (i : ℕ). test (get_or l i free_place)) d
unfolding first_place
first_within test (p₀ ∷ p₁ ∷ p₂ ∷ p₃ ∷ []) d e = first_of (test p₀) (test p₁) (test p₂) (test p₃) d
first_within test [] d e = absurd (omega (arith, e))
first_within test (p₀ ∷ []) d e = absurd (omega (arith, e))
first_within test (p₀ ∷ p₁ ∷ []) d e = absurd (omega (arith, e))
first_within test (p₀ ∷ p₁ ∷ p₂ ∷ []) d e = absurd (omega (arith, e))
first_within test (p₀ ∷ p₁ ∷ p₂ ∷ p₃ ∷ p₄ ∷ l) d e = absurd (omega (arith, e))

-- the index of the first place that passes a test, or d, is that of the definitions
pub first_found : (test : Place → Bool) (t : Table) (d : ℕ) → length t.places ≡ four
    → unwrap_or (position_from test 0 t.places) d ≡ first_place (λ (i : ℕ). test (place_at t i)) d
unfolding place_at
first_found test t d e = first_within test t.places d e

last_or : (x y z w : Bool) → (x || (y || (z || (w || false)))) ≡ (x || (y || (z || w)))
last_or true y z w = refl
last_or false true z w = refl
last_or false false true w = refl
last_or false false false true = refl
last_or false false false false = refl

any_within : (test : Place → Bool) (l : List Place) → length l ≡ four
    → list_any test l ≡ (test (get_or l 0 free_place) || (test (get_or l 1 free_place) || (test (get_or l 2 free_place) || test (get_or l 3 free_place))))
any_within test (p₀ ∷ p₁ ∷ p₂ ∷ p₃ ∷ []) e = last_or (test p₀) (test p₁) (test p₂) (test p₃)
any_within test [] e = absurd (omega (arith, e))
any_within test (p₀ ∷ []) e = absurd (omega (arith, e))
any_within test (p₀ ∷ p₁ ∷ []) e = absurd (omega (arith, e))
any_within test (p₀ ∷ p₁ ∷ p₂ ∷ []) e = absurd (omega (arith, e))
any_within test (p₀ ∷ p₁ ∷ p₂ ∷ p₃ ∷ p₄ ∷ l) e = absurd (omega (arith, e))

-- a test passes at one of the places where it does at one of the four
pub any_found : (test : Place → Bool) (t : Table) → length t.places ≡ four
    → list_any test t.places ≡ (test (place_at t 0) || (test (place_at t 1) || (test (place_at t 2) || test (place_at t 3))))
unfolding place_at
any_found test t e = any_within test t.places e
