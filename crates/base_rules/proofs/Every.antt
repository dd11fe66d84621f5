-- A test that is computed at each number below a bound, and what it says of each: the way to prove a table's rule once. Assumes nothing.
use mathlib.Core.Path.{◌≡◌, subst, sym}
use mathlib.Core.Bool.{Bool, true, false, ◌&&◌}
use Prim.Native.Nat.{ℕ, zero, suc, ◌<◌}
use native.Mathlib.Nat.{not-suc-le-zero, le_of_suc-le-suc}
use native.Mathlib.Decide.{ℕ_discrete}
use lib.Arith.{lt_of_le-ne}
use lib.Dec.{T}

left : (a b : Bool) → T (a && b) → T a
left true b t = tt
left false b t = t

right : (a b : Bool) → T (a && b) → T b
right true b t = t
right false b t = absurd t

-- the test passes at each number below n
abbrev pub below : ℕ → (ℕ → Bool) → Bool
below zero test = true
below (suc n) test = test n && below n test

-- so it passes at the number k
pub at : (n : ℕ) (test : ℕ → Bool) → T (below n test) → (k : ℕ) → k < n → T (test k)
at zero test t k h = absurd (not-suc-le-zero h)
at (suc n) test t k h = go (λ l. at n test (right (test n) (below n test) t) k l) (ℕ_discrete k n)
  where
    go : (k < n → T (test k)) → Dec (k ≡ n) → T (test k)
    go ih (yes e) = subst (λ x. T (test x)) (sym e) (left (test n) (below n test) t)
    go ih (no e) = ih (lt_of_le-ne (le_of_suc-le-suc h) e)
