-- At most one word of the shortened code has the bytes that are there, by their positions (R3). Assumes nothing.
use mathlib.Core.Path.{◌≡◌, refl, sym, ap, ap₂, ◌∙◌}
use mathlib.Core.Bool.{Bool, true, false, not}
use mathlib.Core.List.{List, [], ◌∷◌}
use Prim.Native.Nat.{ℕ, zero, suc, ◌+◌, ◌<◌}
use native.Mathlib.Nat.{suc_inj, suc-ne-zero, add-zero}
use native.Mathlib.Omega.{arith}
use lib.ListN.{length, get_or}
use Rattle.codeword.specs.Erasure.{erase, mask_of}

-- the mask of n places is n long
pub length-mask_of : (there : ℕ → Bool) (a n : ℕ) → length (mask_of there a n) ≡ n
unfolding mask_of
length-mask_of there a zero = refl
length-mask_of there a (suc n) = ap suc (length-mask_of there (suc a) n)

-- one place more
erase_one : (b : Bool) (x y : ℕ) (ms : List Bool) (v w : List ℕ) → (b ≡ true → x ≡ y) → erase ms v ≡ erase ms w
    → erase (not b ∷ ms) (x ∷ v) ≡ erase (not b ∷ ms) (y ∷ w)
unfolding erase
erase_one true x y ms v w e q = ap₂ ◌∷◌ (e refl) q
erase_one false x y ms v w e q = ap (λ l. 0 ∷ l) q

-- words that have the same bytes where they are there are the same once the others are erased
pub erase_same : (there : ℕ → Bool) (a n : ℕ) (v w : List ℕ) → length v ≡ n → length w ≡ n
    → ((i : ℕ) → i < n → there (a + i) ≡ true → get_or v i 0 ≡ get_or w i 0) → erase (mask_of there a n) v ≡ erase (mask_of there a n) w
unfolding mask_of erase
erase_same there a zero [] [] ev ew q = refl
erase_same there a zero [] (y ∷ w) ev ew q = absurd (suc-ne-zero (length w) ew)
erase_same there a zero (x ∷ v) w ev ew q = absurd (suc-ne-zero (length v) ev)
erase_same there a (suc n) [] w ev ew q = absurd (suc-ne-zero n (sym ev))
erase_same there a (suc n) (x ∷ v) [] ev ew q = absurd (suc-ne-zero n (sym ew))
erase_same there a (suc n) (x ∷ v) (y ∷ w) ev ew q =
    erase_one (there a) x y (mask_of there (suc a) n) v w (λ t. q 0 (omega arith) (ap there (add-zero a) ∙ t))
    (erase_same there (suc a) n v w (suc_inj ev) (suc_inj ew) (λ i h t. q (suc i) (omega arith) (ap there (next i) ∙ t)))
  where
    next : (i : ℕ) → a + suc i ≡ suc a + i
    next i = omega arith
