-- C6 on the bytes of a chunk that one fragment takes: so many times as many as losses are assured are at most 48. Assumes nothing.
use mathlib.Core.Path.{◌≡◌, refl, ap, sym, subst}
use mathlib.Core.Bool.{Bool, true, false, cond, ◌&&◌}
use Prim.Native.Nat.{ℕ, zero, suc, ◌+◌, ◌*◌, ◌/◌, ◌≤◌, ◌<◌}
use native.Mathlib.Omega.{arith}
use borrow.Author.Tests.{eqb-true, eqb-false, ltb-false}
use lib.Dec.{lit≤, eqb, ltb}
use Rattle.base_rules.specs.Bounds.{most_m, parity}
use Rattle.base_rules.specs.Round.{ceil}
use Rattle.cut_rules.specs.Sizes.{divided_by, assured_by}
use Rattle.cut_rules.specs.declared.Rule.{Rule}
use Rattle.cut_rules.specs.declared.Rule.TheVariants.{Older, Newer}
use Rattle.cut_rules.proofs.LossCounts as loss

-- m times 48 / (m + 1) rounded up is at most 48
shares : (m : ℕ) → m ≤ most_m → m * ceil parity (m + 1) ≤ parity
unfolding ceil
shares zero h = lit≤ tt
shares (suc zero) h = lit≤ tt
shares (suc (suc zero)) h = lit≤ tt
shares (suc (suc (suc zero))) h = lit≤ tt
shares (suc (suc (suc (suc zero)))) h = lit≤ tt
shares (suc (suc (suc (suc (suc zero))))) h = lit≤ tt
shares (suc (suc (suc (suc (suc (suc m)))))) h = absurd (omega arith)

-- m times 48 / m rounded up too, where m is at most 4
shares_newer : (m : ℕ) → m ≤ 4 → m * ceil parity m ≤ parity
unfolding ceil
shares_newer zero h = lit≤ tt
shares_newer (suc zero) h = lit≤ tt
shares_newer (suc (suc zero)) h = lit≤ tt
shares_newer (suc (suc (suc zero))) h = lit≤ tt
shares_newer (suc (suc (suc (suc zero)))) h = lit≤ tt
shares_newer (suc (suc (suc (suc (suc m))))) h = absurd (omega arith)

-- by either rule, from what both have: S is at most 48 c over the divisor
pub each_shares : (r : Rule) (m c S : ℕ) → (m ≡ 0 → ⊥) → m ≤ most_m → 0 < c → S ≤ parity * c / divided_by r m
    → (t : ℕ) × (S ≤ c * t) × (assured_by r m c * t ≤ parity)
each_shares Older m c S more few some h = (ceil parity (m + 1), loss.thin c (m + 1) S (omega arith) h, shares m few)
each_shares Newer m c S more few some h = either_m (eqb m 5) refl
  where
    either_m : (b : Bool) → eqb m 5 ≡ b → (t : ℕ) × (S ≤ c * t) × (cond (b && ltb 1 c) 4 m * t ≤ parity)
    either_m false e = (ceil parity m, loss.thin c m S (omega arith) h, shares_newer m (omega (arith, eqb-false m 5 e)))
    either_m true e =
        let five : m ≡ 5 = eqb-true m 5 e in
        let cut : S ≤ parity * c / 5 = omega (arith, h, ap (λ (x : ℕ). parity * c / x) five) in
        either_c (ltb 1 c) refl five cut
      where
        -- a fifth of 48 c is at most 10 c, and with one chunk at most 9
        either_c : (b : Bool) → ltb 1 c ≡ b → m ≡ 5 → S ≤ parity * c / 5 → (t : ℕ) × (S ≤ c * t) × (cond b 4 m * t ≤ parity)
        either_c true e five cut = (10, omega (arith, cut), lit≤ tt)
        either_c false e five cut = let one : c ≡ 1 = omega (arith, ltb-false 1 c e) in (9, omega (arith, cut, one), omega (arith, five))

-- no loss takes nothing, by either rule
pub each_none : (r : Rule) (m c S : ℕ) → m ≡ 0 → assured_by r m c * S ≤ parity
each_none Older m c S e = omega (arith, ap (λ (x : ℕ). x * S) e)
each_none Newer m c S e = subst (λ (x : ℕ). cond (eqb x 5 && ltb 1 c) 4 x * S ≤ parity) (sym e) (omega arith)
