-- Rounding up: the four laws from which all others follow. Assumes nothing.
use Prim.Native.Nat.{ℕ, suc, ◌+◌, ◌-◌, ◌*◌, ◌≤◌, ◌<◌}
use native.Mathlib.Nat.{mul-div-le, lt-mul-div-succ, lt_of_mul-lt-mul_left, le_of_suc-le-suc}
use native.Mathlib.Omega.{arith}
use Rattle.base_rules.specs.Round.{ceil}

module _ (x y : ℕ) (pos : 0 < y) where
  -- it is enough,
  pub up : x ≤ y * ceil x y
  unfolding ceil
  up = omega (arith, lt-mul-div-succ (x + (y - 1)) pos)

  -- less than one y too much,
  pub near : y * ceil x y < x + y
  unfolding ceil
  near = omega (arith, mul-div-le (x + (y - 1)) y)

  -- the least that is enough,
  pub least : (q : ℕ) → x ≤ y * q → ceil x y ≤ q
  least q h = le_of_suc-le-suc (lt_of_mul-lt-mul_left y {m = ceil x y} {n = suc q} (omega (arith, near)))

  -- and not 0 where x is not
  pub some : 0 < x → 0 < ceil x y
  some h = lt_of_mul-lt-mul_left y {m = 0} {n = ceil x y} (omega (arith, up))
