-- The most that a chunk misses, chunk by chunk, and that it tells whether the fragments held suffice. Assumes nothing.
use mathlib.Core.Path.{◌≡◌, refl, sym, ap, ap₂, ◌∙◌}
use mathlib.Core.Bool.{Bool, ◌&&◌}
use Prim.Native.Nat.{ℕ, zero, suc, ◌+◌, max}
use native.Mathlib.Numerals.{add-one}
use native.Mathlib.Omega.{arith}
use borrow.Author.Tests.{ltb-true, ltb-false, leb-true, le-leb}
use lib.Dec.{ltb, leb}
use Rattle.base_rules.specs.Bounds.{parity}
use Rattle.base_rules.proofs.Logic.{either, and_false}
use Rattle.cut_rules.specs.Missing.{missing, suffice}
use Rattle.relay.specs.inner.Missed.{most_missing}

-- two numbers are within a bound where the greater one is
within : (a b p : ℕ) → leb (max a b) p ≡ leb a p && leb b p
within a b p =
    either (ltb a b)
    (λ e.
    let m : max a b ≡ b = omega (arith, ltb-true a b e) in
    either (leb b p)
    (λ t. rw (m, t, le-leb a p (omega (arith, ltb-true a b e, leb-true b p t))))
    (λ t. rw (m, t, and_false (leb a p))))
    (λ e.
    let m : max a b ≡ a = omega (arith, ltb-false a b e) in
    either (leb a p)
    (λ t. rw (m, t, le-leb b p (omega (arith, ltb-false a b e, leb-true a p t))))
    (λ t. rw (m, t)))

module _ (lost : ℕ → Bool) (f n : ℕ) where
  -- of no chunk nothing is missing
  pub most_none : 0 ≡ most_missing lost f n 0
  unfolding most_missing
  most_none = refl

  -- with a chunk more it is the greater of it and what that chunk misses
  pub most_more : (j a b : ℕ) → a ≡ most_missing lost f n j → b ≡ missing lost f n j → max a b ≡ most_missing lost f n (j + 1)
  unfolding most_missing
  most_more j a b e h = ap₂ max e h ∙ ap (most_missing lost f n) (sym (add-one j))

  -- no chunk misses more than 48 bytes where the most that one misses is at most 48
  pub most_tells : (c : ℕ) → leb (most_missing lost f n c) parity ≡ suffice lost f n c
  unfolding most_missing suffice
  most_tells zero = refl
  most_tells (suc c) =
      within (most_missing lost f n c) (missing lost f n c) parity ∙ ap (λ (b : Bool). b && leb (missing lost f n c) parity) (most_tells c)
