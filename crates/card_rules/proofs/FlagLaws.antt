-- A list of truth values that is filled by a test from the left. Assumes nothing.
use mathlib.Core.Path.{◌≡◌, refl, sym, ap, ap₂, ◌∙◌, subst}
use mathlib.Core.Logic.{◌⊎◌, inl, inr}
use mathlib.Core.List.{List, [], ◌∷◌}
use mathlib.Core.Bool.{Bool, false}
use Prim.Native.Nat.{ℕ, zero, suc, ◌+◌, ◌<◌}
use native.Mathlib.Nat.{add-zero, eq-or-lt_of_le}
use native.Mathlib.Omega.{arith}
use lib.ListN.{length, get_or, set}
use lib.Seq.{get_or-set_same, get_or-set_other}
use Rattle.card_rules.specs.Blocks.{flags}

-- the first i elements are the test's values
pub record Flags (test : ℕ → Bool) (xs : List Bool) (i : ℕ) : Type 0 where
  pub at : (q : ℕ) → q < i → get_or xs q false ≡ test q

-- before any element is set, none has to be the test's value
pub flags_none : (test : ℕ → Bool) (xs : List Bool) → Flags test xs 0
flags_none test xs = record { at = λ q (b : q < 0). absurd (omega arith) }

-- with element i set to the test's value, the first i + 1 are the test's values
pub flags_more : (test : ℕ → Bool) (xs : List Bool) (i : ℕ) (v : Bool) → Flags test xs i → i < length xs → v ≡ test i
    → Flags test (set xs i v) (i + 1)
flags_more test xs i v h l e = record { at = λ q (b : q < i + 1). go q (eq-or-lt_of_le b) }
  where
    go : (q : ℕ) → (suc q ≡ i + 1) ⊎ (suc q < i + 1) → get_or (set xs i v) q false ≡ test q
    go q (inl s) =
        let z : q ≡ i = omega arith in
        subst (λ (x : ℕ). get_or (set xs i v) x false ≡ test x) (sym z) (get_or-set_same xs i v false l ∙ e)
    go q (inr s) = get_or-set_other xs i q v false (λ (z : q ≡ i). omega arith) ∙ h.at q (omega arith)

-- a list whose elements are the test's values is the list of them
pub flags-all : (test : ℕ → Bool) (a n : ℕ) (xs : List Bool) → length xs ≡ n → ((q : ℕ) → q < n → get_or xs q false ≡ test (a + q))
    → xs ≡ flags test a n
unfolding flags
flags-all test a zero [] e h = refl
flags-all test a zero (x ∷ xs) e h = absurd (omega arith)
flags-all test a (suc n) [] e h = absurd (omega arith)
flags-all test a (suc n) (x ∷ xs) e h =
    ap₂ (λ (y : Bool) (l : List Bool). y ∷ l) (h 0 (omega arith) ∙ ap test (add-zero a))
    (flags-all test (suc a) n xs (omega arith) (λ q (b : q < n). h (suc q) (omega arith) ∙ ap test (omega arith)))
