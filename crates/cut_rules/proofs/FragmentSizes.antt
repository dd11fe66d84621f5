-- A cut of L bytes into f fragments of s, at most S to a fragment: laws of any L and S. Assumes nothing.
use mathlib.Core.Path.{◌≡◌, ap}
use Prim.Native.Nat.{ℕ, suc, ◌+◌, ◌-◌, ◌*◌, ◌/◌, ◌≤◌, ◌<◌}
use native.Mathlib.Nat.{mul-le-mul_left, mul-le-mul_right, mul-le-mul, mul-pos, div-eq_of_lt-le}
use native.Mathlib.Omega.{arith, by_contra}
use Rattle.base_rules.specs.Round.{ceil}
use Rattle.base_rules.proofs.Ceil as ceils

-- how many fragments L bytes are cut into, with at most S bytes to each
abbrev pub f' : ℕ → ℕ → ℕ
f' L S = ceil L S

abbrev pub s' : ℕ → ℕ → ℕ
s' L S = ceil L (f' L S)

module _ (L S : ℕ) (some : 0 < L) (room : 0 < S) where
  -- a cut of one byte or more, with room for a byte in a fragment, has at least one fragment
  pub f_some : 0 < f' L S
  f_some = ceils.some L S room some

  -- a fragment of such a cut has at least one byte
  pub s_some : 0 < s' L S
  s_some = ceils.some L (f' L S) f_some some

  -- a fragment has no more than the S bytes that it may have
  pub s_most : s' L S ≤ S
  s_most = ceils.least L (f' L S) f_some S (omega (arith, ceils.up L S room))

  -- f fragments of s bytes hold all L bytes
  pub holds : L ≤ f' L S * s' L S
  holds = ceils.up L (f' L S) f_some

  -- the last fragment is not empty,
  pub last : f' L S * s' L S < L + s' L S
  last =
      let g : ℕ = f' L S - 1 in
      let e : f' L S ≡ g + 1 = omega (arith, f_some) in
      let one : f' L S * s' L S ≡ (g + 1) * s' L S = ap (λ (x : ℕ). x * s' L S) e in
      let two : S * f' L S ≡ S * (g + 1) = ap (λ (x : ℕ). S * x) e in
      omega (arith, one, two, mul-le-mul_left g s_most, ceils.near L S room)

  -- so those before it do not hold all
  pub before_last : (f' L S - 1) * s' L S < L
  before_last =
      let g : ℕ = f' L S - 1 in
      let e : f' L S ≡ g + 1 = omega (arith, f_some) in
      omega (arith, ap (λ (x : ℕ). x * s' L S) e, last)

  -- fewer cells are left over than there are fragments
  pub over : f' L S * s' L S < L + f' L S
  over = ceils.near L (f' L S) f_some

-- the receiver's c is the sender's where a chunk has as many bytes as there are chunks: with a chunk's bytes left over f and s
-- would both be above n
module _ (c n S : ℕ) (chunks : 0 < c) (cells : 0 < n) (room : 0 < S) where
  -- with at least as many bytes to a chunk as there are chunks, floor(fs / n) is the c that was cut
  pub c_same : c ≤ n → f' (c * n) S * s' (c * n) S / n ≡ c
  c_same small =
      div-eq_of_lt-le n (holds (c * n) S some room) (by_contra (suc (f * s)) ((c + 1) * n) (λ (much : (c + 1) * n < suc (f * s)).
      let g : ℕ = f - 1 in
      let e : f ≡ g + 1 = omega (arith, f_some (c * n) S some room) in
      let one : f * s ≡ (g + 1) * s = ap (λ (x : ℕ). x * s) e in
      let tall : n ≤ g = omega (arith, over (c * n) S some room) in
      let wide : n ≤ s = omega (arith, last (c * n) S some room) in
      omega (arith, one, mul-le-mul tall wide, mul-le-mul_right n small, last (c * n) S some room)))
    where
      some : 0 < c * n
      some = mul-pos chunks cells

      f : ℕ
      f = f' (c * n) S

      s : ℕ
      s = s' (c * n) S
