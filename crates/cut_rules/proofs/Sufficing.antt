-- Whether every chunk bears what is lost: all of them do, or one does not. Assumes nothing.
use mathlib.Core.Path.{◌≡◌, refl, subst}
use mathlib.Core.Logic.{◌⊎◌, inl, inr}
use mathlib.Core.Bool.{Bool, true, false, ◌&&◌}
use Prim.Native.Nat.{ℕ, zero, suc, ◌≤◌, ◌<◌}
use native.Mathlib.Nat.{eq-or-lt_of_le, not-suc-le-zero, le_of_suc-le-suc}
use native.Mathlib.Omega.{arith}
use borrow.Author.Tests.{le-leb, lt-leb}
use lib.Dec.{leb}
use Rattle.base_rules.specs.Bounds.{parity}
use Rattle.base_rules.proofs.Logic.{and_false}
use Rattle.cut_rules.specs.Missing.{missing, suffice}

module _ (lost : ℕ → Bool) (f n : ℕ) where
  -- where one of c chunks misses more than 48 bytes, the fragments held do not suffice
  pub suffice_no : (c j : ℕ) → j < c → parity < missing lost f n j → suffice lost f n c ≡ false
  unfolding suffice
  suffice_no zero j l h = absurd (not-suc-le-zero l)
  suffice_no (suc c) j l h = go (eq-or-lt_of_le (le_of_suc-le-suc l)) (λ (k : j < c). suffice_no c j k h)
    where
      go : (j ≡ c) ⊎ (j < c) → (j < c → suffice lost f n c ≡ false) → suffice lost f n c && leb (missing lost f n c) parity ≡ false
      go (inl e) ih = subst (λ (x : ℕ). suffice lost f n x && leb (missing lost f n x) parity ≡ false) e
          (simp (lt-leb (missing lost f n j) parity h, and_false))
      go (inr k) ih = simp (ih k)

  -- where none of c chunks misses more than 48 bytes, the fragments held suffice
  pub suffice_from : (c : ℕ) → ((j : ℕ) → j < c → missing lost f n j ≤ parity) → suffice lost f n c ≡ true
  unfolding suffice
  suffice_from zero h = refl
  suffice_from (suc c) h = simp (suffice_from c (λ j (l : j < c). h j (omega arith)), le-leb (missing lost f n c) parity (h c (omega arith)))
