-- How many losses a cut stands, exactly: over n and f alone, so that no rule of sizes comes in; Stands.antt has what follows from it. Assumes nothing.
use mathlib.Core.Path.{◌≡◌, refl, ap}
use mathlib.Core.Bool.{Bool, true, false, cond}
use Prim.Native.Nat.{ℕ, ◌+◌, ◌-◌, ◌*◌, ◌/◌, ◌%◌, ◌≤◌, ◌<◌, min}
use native.Mathlib.Nat.{mul-div-le, lt-mul-div-succ, le-div_iff_mul-le, mul-le-mul_left, div-add-mod'}
use native.Mathlib.Omega.{arith, by_contra}
use borrow.Author.Tests.{ltb-true, ltb-false, lt-ltb, le-ltb}
use lib.Dec.{ltb}
use Rattle.base_rules.specs.Bounds.{parity}
use Rattle.cut_rules.specs.Missing.{worst}
use Rattle.endurance_rules.specs.Endure.{stands}

-- ---- the figure as it is worked out: the two cases of `stands`

module _ (n f : ℕ) where
  -- where 48 bytes are gone before all the fragments are that take one more,
  pub stands_few : parity / (n / f + 1) < n % f → parity / (n / f + 1) ≡ stands n f
  unfolding stands
  stands_few h = rw (lt-ltb (parity / (n / f + 1)) (n % f) h)

  -- and where not
  pub stands_all : n % f ≤ parity / (n / f + 1) → (parity - n % f) / (n / f) ≡ stands n f
  unfolding stands
  stands_all h = rw (le-ltb (parity / (n / f + 1)) (n % f) h)

-- ---- what it says, with a for n div f and b for n mod f

module _ (a b : ℕ) (much : a < 1 → parity < b) where
  q : ℕ
  q = parity / (a + 1)

  q_low : (a + 1) * q ≤ parity
  unfolding q
  q_low = mul-div-le parity (a + 1)

  q_high : parity < (a + 1) * (q + 1)
  unfolding q
  q_high = lt-mul-div-succ parity (omega arith)

  -- 48 bytes are gone before all b fragments are that take one more
  few_thick : q < b → (q * a + min q b ≤ parity) × (parity < (q + 1) * a + min (q + 1) b)
  few_thick h = (omega (arith, q_low), omega (arith, q_high))

  -- else there is a whole turn, or b would be all of the chunk
  turned : b ≤ q → 0 < a
  turned h = by_contra 1 a (λ (l : a < 1).
      let none : a + 1 ≡ 1 = omega arith in
      omega (arith, q_low, q_high, much l, ap (λ (x : ℕ). x * (q + 1)) none))

module _ (n f : ℕ) (some : 0 < f) (much : parity < n) where
  no_turn : n / f < 1 → parity < n % f
  no_turn l =
      let e : n / f * f ≡ 0 * f = ap (λ (x : ℕ). x * f) (omega arith) in
      omega (arith, e, div-add-mod' n f)

  -- that many losses take at most 48 bytes of a chunk, and one more can take more
  pub exact : (worst n f (stands n f) ≤ parity) × (parity < worst n f (stands n f + 1))
  unfolding worst stands q
  exact = go (ltb (parity / (n / f + 1)) (n % f)) refl
    where
      -- where there is a whole turn, all b are gone, and of the rest each takes a
      all_thick : (a b : ℕ) → (a < 1 → parity < b) → b ≤ parity / (a + 1)
          → ((parity - b) / a * a + min ((parity - b) / a) b ≤ parity) × (parity < ((parity - b) / a + 1) * a + min ((parity - b) / a + 1) b)
      all_thick a b much h =
          let w : ℕ = (parity - b) / a in
          let under : (a + 1) * b ≤ parity = omega (arith, mul-le-mul_left (a + 1) h, q_low a b much) in
          let enough : b ≤ w = (le-div_iff_mul-le (turned a b much h)).1 (omega (arith, under)) in
          let low : a * w ≤ parity - b = mul-div-le (parity - b) a in
          let high : parity - b < a * (w + 1) = lt-mul-div-succ (parity - b) (turned a b much h) in
          (omega (arith, low, under), omega (arith, high))

      go : (t : Bool) → ltb (parity / (n / f + 1)) (n % f) ≡ t
          → (worst n f (cond t (parity / (n / f + 1)) ((parity - n % f) / (n / f))) ≤ parity)
          × (parity < worst n f (cond t (parity / (n / f + 1)) ((parity - n % f) / (n / f)) + 1))
      go true e = few_thick (n / f) (n % f) no_turn (ltb-true _ _ e)
      go false e = all_thick (n / f) (n % f) no_turn (ltb-false _ _ e)

  -- where the remainder is not the smaller there is a whole turn, so that n div f can be divided by
  pub whole : n % f ≤ parity / (n / f + 1) → 0 < n / f
  unfolding q
  whole h = turned (n / f) (n % f) no_turn h
