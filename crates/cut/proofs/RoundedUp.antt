-- Rounding up as std does it. Assumes nothing.
use mathlib.Core.Path.{◌≡◌}
use Prim.Native.Nat.{ℕ, suc, ◌≤◌, ◌<◌}
use native.Mathlib.Nat.{lt_of_mul-lt-mul_left, le_of_suc-le-suc}
use native.Mathlib.Omega.{arith}
use Rattle.std.specs.Int.{div_ceil}
use Rattle.std.proofs.lemmas.Grind.{div_ceil_times}
use Rattle.base_rules.specs.Round.{ceil}
use Rattle.base_rules.proofs.Ceil as ceils

-- is rounding up as document 01 writes it
pub rounded : (x y : ℕ) → 0 < y → div_ceil x y ≡ ceil x y
rounded x y pos =
    let t = div_ceil_times x y pos in
    let least : ceil x y ≤ div_ceil x y = ceils.least x y pos (div_ceil x y) (omega (arith, t.0)) in
    let most : div_ceil x y ≤ ceil x y =
    le_of_suc-le-suc (lt_of_mul-lt-mul_left y {m = div_ceil x y} {n = suc (ceil x y)} (omega (arith, t.1, ceils.up x y pos))) in
    omega (arith, least, most)
