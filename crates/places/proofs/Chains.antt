-- Tests joined by `||`, grouped from the left as the code runs them and from the right as the definitions write them. Assumes nothing.
use mathlib.Core.Path.{◌≡◌, refl, ap, ◌∙◌}
use mathlib.Core.Bool.{Bool, true, false, ◌||◌}

-- both groupings are one value
pub regroup : (a b c : Bool) → ((a || b) || c) ≡ (a || (b || c))
regroup true b c = refl
regroup false b c = refl

-- a value that is that of the first two tests, and a third
pub of_3 : (a b c : Bool) {v : Bool} → v ≡ (a || b) → (v || c) ≡ (a || (b || c))
of_3 a b c e = ap (λ (x : Bool). x || c) e ∙ regroup a b c

-- a value that is that of the first three tests, and a fourth
pub of_4 : (a b c d : Bool) {v : Bool} → v ≡ (a || (b || c)) → (v || d) ≡ (a || (b || (c || d)))
of_4 a b c d e = of_3 a (b || c) d e ∙ ap (λ (x : Bool). a || x) (regroup b c d)

-- a value that is that of the first four tests, and a fifth
pub of_5 : (a b c d r : Bool) {v : Bool} → v ≡ (a || (b || (c || d))) → (v || r) ≡ (a || (b || (c || (d || r))))
of_5 a b c d r e = of_4 a b (c || d) r e ∙ ap (λ (x : Bool). a || (b || x)) (regroup c d r)
