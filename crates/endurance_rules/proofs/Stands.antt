-- What follows from Exact.antt of the losses that a cut stands: over n and f alone. Assumes nothing.
use mathlib.Core.Path.{◌≡◌}
use mathlib.Core.Bool.{Bool, true, false}
use Prim.Native.Nat.{ℕ, suc, ◌+◌, ◌*◌, ◌/◌, ◌≤◌, ◌<◌}
use native.Mathlib.Nat.{mul-le-mul_right, mod-lt, div-add-mod'}
use native.Mathlib.Omega.{arith, by_contra}
use Rattle.base_rules.specs.Bounds.{parity}
use Rattle.base_rules.proofs.Logic.{clash}
use Rattle.cut_rules.specs.Missing.{losses, missing, suffice, worst, firsts}
use Rattle.cut_rules.proofs.LossCounts.{most, firsts-lost, firsts-take, worst_more}
use Rattle.cut_rules.proofs.Sufficing.{suffice_from, suffice_no}
use Rattle.endurance_rules.specs.Endure.{stands}
use Rattle.endurance_rules.proofs.Exact.{exact}

module _ (n f : ℕ) (some : 0 < f) (much : parity < n) where
  -- not all fragments can be lost
  pub below : stands n f < f
  unfolding worst
  below = by_contra (suc (stands n f)) f (λ (l : f < suc (stands n f)).
      let all : f * (n / f) ≤ stands n f * (n / f) = mul-le-mul_right (n / f) (omega arith) in
      omega (arith, all, (exact n f some much).0, div-add-mod' n f, mod-lt n some))

  -- any so many lost leave every chunk at most 48 short, of any number of chunks
  pub endures : (lost : ℕ → Bool) → losses lost f ≤ stands n f → (c : ℕ) → suffice lost f n c ≡ true
  unfolding missing
  endures lost few c =
      suffice_from lost f n c (λ j h.
      omega (arith, most lost f some (j * n) n, worst_more n f (losses lost f) (stands n f) few, (exact n f some much).0))

  -- the first v of more than so many take more than 48 bytes of the first chunk,
  pub too_many : (v : ℕ) → stands n f < v → v ≤ f → parity < missing (firsts v) f n 0
  too_many v more few = omega (arith, firsts-take n f v some few, (exact n f some much).1, worst_more n f (stands n f + 1) v (omega arith))

  -- and so leave too little, of one chunk or more
  pub endures_not : (v c : ℕ) → stands n f < v → v ≤ f → 0 < c → suffice (firsts v) f n c ≡ false
  endures_not v c more few chunks = suffice_no (firsts v) f n c 0 chunks (too_many v more few)

  -- so it is the greatest
  pub greatest : (v c : ℕ) → v ≤ f → 0 < c → ((lost : ℕ → Bool) → losses lost f ≡ v → suffice lost f n c ≡ true) → v ≤ stands n f
  greatest v c few chunks all =
      by_contra v (stands n f) (λ (l : stands n f < v).
      clash (all (firsts v) (firsts-lost n f v some few)) (endures_not v c l few chunks))
