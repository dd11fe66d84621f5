-- What the test `misfits` says of a packet of l bytes and c chunks of k bytes: false where the packet ends in the last of them, and only there.
-- Assumes nothing.
use mathlib.Core.Path.{◌≡◌, ap}
use mathlib.Core.Bool.{false}
use Prim.Native.Nat.{ℕ, zero, suc, ◌+◌, ◌-◌, ◌*◌, ◌≤◌, ◌<◌}
use native.Mathlib.Nat.{suc-mul, zero-mul, pos_of_ne-zero}
use native.Mathlib.Omega.{arith}
use borrow.Author.Tests.{ltb-false, leb-false, eqb-false, le-ltb, lt-leb, ne_eqb}
use lib.Dec.{ltb, eqb}
use Rattle.base_rules.proofs.Logic.{or_left, or_right}
use Rattle.code_rules.specs.Calls.{misfits}

before_last : (k c : ℕ) → 0 < c → (c - 1) * k + k ≡ c * k
before_last k zero h = absurd (omega arith)
before_last k (suc c) h = let e : suc c - 1 ≡ c = omega arith in rw (e, suc-mul)

module _ (l k c : ℕ) where
  -- a packet that is not refused has a chunk, reaches into the last one, and ends there
  pub fits_in_last : misfits l k c ≡ false → ((c - 1) * k < l) × (l ≤ c * k)
  unfolding misfits
  fits_in_last e =
      let some : 0 < c = pos_of_ne-zero (eqb-false c 0 (or_left (eqb c 0) _ e)) in
      let fits = or_right (eqb c 0) _ e in
      let within = ltb-false (c * k) l (or_left (ltb (c * k) l) _ fits) in
      let rest = leb-false k (c * k - l) (or_right (ltb (c * k) l) _ fits) in
      (omega (arith, before_last k c some), within)

  -- and such a packet is not refused
  pub in_last_fits : (c - 1) * k < l → l ≤ c * k → misfits l k c ≡ false
  unfolding misfits
  in_last_fits h within =
      let none : c ≡ 0 → ⊥ = λ e. omega (arith, ap (λ (x : ℕ). x * k) e, zero-mul k) in
      let rest : c * k - l < k = omega (arith, before_last k c (pos_of_ne-zero none)) in
      rw (ne_eqb c 0 none, le-ltb (c * k) l within, lt-leb k (c * k - l) rest)
