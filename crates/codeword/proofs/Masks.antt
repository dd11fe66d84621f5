-- Laws of masks that come as bytes. Assumes nothing.
use mathlib.Core.Path.{◌≡◌, refl, ap, ap₂, ◌∙◌}
use mathlib.Core.Bool.{false, not}
use mathlib.Core.List.{List, [], ◌∷◌, ◌++◌}
use Prim.Native.Nat.{ℕ, zero, suc, ◌-◌}
use lib.Dec.{eqb}
use lib.ListN.{length, take, drop, replicate}
use Rattle.base_rules.specs.Bounds.{most_k}
use Rattle.codeword.specs.Code.{full}
use Rattle.codeword.specs.Erasure.{marks}

pub length-marks : (l : List ℕ) → length (marks l) ≡ length l
unfolding marks
length-marks [] = refl
length-marks (b ∷ l) = ap suc (length-marks l)

marks-append : (a b : List ℕ) → marks (a ++ b) ≡ marks a ++ marks b
unfolding marks
marks-append [] b = refl
marks-append (x ∷ a) b = ap (λ l. not (eqb x 0) ∷ l) (marks-append a b)

marks-take : (k : ℕ) (l : List ℕ) → marks (take k l) ≡ take k (marks l)
unfolding marks
marks-take zero l = refl
marks-take (suc k) [] = refl
marks-take (suc k) (x ∷ l) = ap (λ t. not (eqb x 0) ∷ t) (marks-take k l)

marks-drop : (k : ℕ) (l : List ℕ) → marks (drop k l) ≡ drop k (marks l)
unfolding marks
marks-drop zero l = refl
marks-drop (suc k) [] = refl
marks-drop (suc k) (x ∷ l) = marks-drop k l

marks_zeros : (n : ℕ) → marks (replicate n 0) ≡ replicate n false
unfolding marks
marks_zeros zero = refl
marks_zeros (suc n) = ap (λ l. false ∷ l) (marks_zeros n)

-- in the 255 places
pub marks-full : (k : ℕ) (m : List ℕ) → marks (full 0 k m) ≡ full false k (marks m)
unfolding full
marks-full k m =
    marks-append (take k m) (replicate (most_k - k) 0 ++ drop k m)
    ∙ ap₂ ◌++◌ (marks-take k m) (marks-append (replicate (most_k - k) 0) (drop k m) ∙ ap₂ ◌++◌ (marks_zeros (most_k - k)) (marks-drop k m))
