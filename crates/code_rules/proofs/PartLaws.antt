-- Missing bytes, part by part. Assumes nothing.
use mathlib.Core.Path.{◌≡◌, refl, sym, ap, ◌∙◌}
use mathlib.Core.Bool.{Bool, true, false, not}
use mathlib.Core.List.{List, [], ◌∷◌}
use Prim.Native.Nat.{ℕ, zero, suc, ◌*◌}
use lib.Dec.{eqb}
use lib.ListN.{take, drop}
use Rattle.base_rules.specs.Bytes.{part_of}
use Rattle.codeword.specs.Erasure.{marks, erase}

marks-take : (n : ℕ) (m : List ℕ) → marks (take n m) ≡ take n (marks m)
unfolding marks
marks-take zero m = refl
marks-take (suc n) [] = refl
marks-take (suc n) (x ∷ m) = ap (λ (l : List Bool). not (eqb x 0) ∷ l) (marks-take n m)

marks-drop : (n : ℕ) (m : List ℕ) → marks (drop n m) ≡ drop n (marks m)
unfolding marks
marks-drop zero m = refl
marks-drop (suc n) [] = refl
marks-drop (suc n) (x ∷ m) = marks-drop n m

erase-nil : (ms : List Bool) → erase ms [] ≡ []
unfolding erase
erase-nil [] = refl
erase-nil (m ∷ ms) = refl

erase-take : (n : ℕ) (ms : List Bool) (l : List ℕ) → take n (erase ms l) ≡ erase (take n ms) (take n l)
unfolding erase
erase-take zero ms l = refl
erase-take (suc n) [] l = refl
erase-take (suc n) (m ∷ ms) [] = refl
erase-take (suc n) (true ∷ ms) (x ∷ l) = ap (λ (l : List ℕ). 0 ∷ l) (erase-take n ms l)
erase-take (suc n) (false ∷ ms) (x ∷ l) = ap (λ (l : List ℕ). x ∷ l) (erase-take n ms l)

erase-drop : (n : ℕ) (ms : List Bool) (l : List ℕ) → drop n (erase ms l) ≡ erase (drop n ms) (drop n l)
unfolding erase
erase-drop zero ms l = refl
erase-drop (suc n) [] l = refl
erase-drop (suc n) (m ∷ ms) [] = sym (erase-nil (drop n ms))
erase-drop (suc n) (true ∷ ms) (x ∷ l) = erase-drop n ms l
erase-drop (suc n) (false ∷ ms) (x ∷ l) = erase-drop n ms l

-- 0 at the missing places of a list is 0 at those of each part
pub part_erase : (n j : ℕ) (mask l : List ℕ) → part_of (erase (marks mask) l) n j ≡ erase (marks (part_of mask n j)) (part_of l n j)
unfolding part_of
part_erase n j mask l =
    ap (take n) (erase-drop (j * n) (marks mask) l) ∙ erase-take n (drop (j * n) (marks mask)) (drop (j * n) l)
    ∙ ap (λ (ms : List Bool). erase ms (take n (drop (j * n) l)))
    (sym (marks-take n (drop (j * n) mask) ∙ ap (take n) (marks-drop (j * n) mask)))
