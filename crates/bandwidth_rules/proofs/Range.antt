-- What is known of 256 x. Assumes nothing.
use mathlib.Core.Path.{◌≡◌, refl, sym, ap, ◌∙◌, subst}
use mathlib.Core.Bool.{Bool, true, false, ◌&&◌, ◌||◌, not}
use Prim.Native.Nat.{ℕ, ◌+◌, ◌*◌, ◌^◌, ◌≤◌, ◌<◌}
use native.Mathlib.Omega.{arith}
use native.Mathlib.Nat.{lt_of_lt_of_le, le_of_lt, le_of_eq, mul-pos}
use lib.Dec.{T, eqb, ltb, lit<, lit≤, lt→ltb, eqb→eq, le→leb}
use lib.IntN.{pos}
use lib.Ieee.{Float, nan, inf, fin, binary32, up, down, round, mul, of_int, le, lt, eq, fits, is_nan, to_unsigned, to_bits, of_bits, in_float}
use lib.Ieee.Exact.{HasValue}
use lib.Ieee.Scale.{round_same}
use lib.Ieee.Back.{round_whole, unsigned_back}
use lib.Ieee.Fits.{and_l, down_pos, div-fits}
use lib.Ieee.Bits.{of_bits-to_bits}
use lib.Ieee.Order.{le_of_values}
use borrow.Author.Tests.{ltb-true}
use Rattle.base_rules.proofs.Logic.{either, clash}
use Rattle.bandwidth_rules.specs.Figure.{scale, figures, figure_of}
use Rattle.bandwidth_rules.proofs.Exact.{figure_exact}

-- a float that is n / 256, times 256, is n rounded
times_256 : (x : Float) (n : ℕ) → HasValue x false n 256 → mul binary32 x scale ≡ round binary32 false n 1
unfolding mul
times_256 nan n v = absurd v
times_256 (inf s) n v = absurd v
times_256 (fin true m e) n v = clash refl v.0
times_256 (fin false m e) n v =
    round_same binary32 false (m * up e * (1 * up (pos 8))) (down e * down (pos 8)) n 1 (mul-pos (down_pos e) (lit< tt)) (lit< tt)
    (cross (m * up e) n (down e) v.1)
  where
    cross : (a n d : ℕ) → a * 256 ≡ n * d → a * (1 * 256) * 1 ≡ n * (d * 1)
    cross a n d h = omega (arith, h)

-- multiplied back, a figure is its whole number
pub scaled_back : (n : ℕ) → n < figures → mul binary32 (figure_of n) scale ≡ of_int binary32 (pos n)
unfolding of_int
scaled_back n h = times_256 (figure_of n) n (figure_exact n h)

small : (n : ℕ) → n < figures → T (in_float binary32 (pos n))
unfolding in_float
small n h = le→leb n (2 ^ 24) (omega arith)

-- and cut, it is its number
pub cut_back : (n : ℕ) → n < figures → to_unsigned 64 (mul binary32 (figure_of n) scale) ≡ n
cut_back n h =
    ap (to_unsigned 64) (scaled_back n h)
    ∙ (unsigned_back binary32 64 n (small n h) (lt_of_lt_of_le h (lit≤ tt))).1

-- so it is a whole number
scaled_value : (n : ℕ) → n < figures → HasValue (mul binary32 (figure_of n) scale) false n 1
unfolding of_int
scaled_value n h = subst (λ (x : Float). HasValue x false n 1) (sym (scaled_back n h)) (round_whole binary32 false n (omega arith))

-- in the range
pub scaled_low : (n : ℕ) → n < figures → T (le (fin false 0 (pos 0)) (mul binary32 (figure_of n) scale))
scaled_low n h =
    le_of_values (fin false 0 (pos 0)) (mul binary32 (figure_of n) scale) 0 1 n 1 (lit< tt) (lit< tt) (refl, refl) (scaled_value n h) (omega arith)

pub scaled_high : (n : ℕ) → n < figures → T (le (mul binary32 (figure_of n) scale) (fin false 65535 (pos 0)))
scaled_high n h =
    le_of_values (mul binary32 (figure_of n) scale) (fin false 65535 (pos 0)) n 1 65535 1 (lit< tt) (lit< tt) (scaled_value n h) (refl, refl) (omega arith)

-- what is level is equal in size, and what is below or level is at most
level_is : (x y : ℕ) (b : Bool) → T (eqb x y && b) → x ≡ y
level_is x y b t = eqb→eq x y (and_l (eqb x y) b t)

at_most : (x y : ℕ) (b : Bool) → T (ltb x y || (eqb x y && b)) → x ≤ y
at_most x y b t =
    either (ltb x y) (λ q. le_of_lt (ltb-true x y q)) (λ q. le_of_eq (level_is x y b (subst (λ (c : Bool). T (c || (eqb x y && b))) q t)))

-- what is at least 0 is above -1,
pub above_minus_one : (v : Float) → T (le (fin false 0 (pos 0)) v) → T (lt (fin true 1 (pos 0)) v)
unfolding le lt eq
above_minus_one nan t = t
above_minus_one (inf true) t = t
above_minus_one (inf false) t = tt
above_minus_one (fin false m e) t = lt→ltb 0 (1 * up (pos 0) * down e + m * up e * down (pos 0)) (omega (arith, down_pos e))
above_minus_one (fin true m e) t =
    lt→ltb (m * up e * down (pos 0)) (1 * up (pos 0) * down e)
    (omega (arith, down_pos e, level_is (0 * up (pos 0) * down e) (m * up e * down (pos 0)) _ t))

-- and what is at most 65,535 is below 2^64
pub below_64 : (v : Float) → T (le v (fin false 65535 (pos 0))) → T (lt v (fin false 1 (pos 64)))
unfolding le lt eq
below_64 nan t = t
below_64 (inf true) t = tt
below_64 (inf false) t = t
below_64 (fin true m e) t = lt→ltb 0 (m * up e * down (pos 64) + 1 * up (pos 64) * down e) (omega (arith, down_pos e))
below_64 (fin false m e) t =
    lt→ltb (m * up e * down (pos 64)) (1 * up (pos 64) * down e)
    (far (m * up e) (down e) (down_pos e) (at_most (m * up e * down (pos 0)) (65535 * up (pos 0) * down e) _ t))
  where
    far : (a d : ℕ) → 0 < d → a * 1 ≤ 65535 * 1 * d → a * 1 < 1 * 18446744073709551616 * d
    far a d p h = omega arith

-- a number that has a value is no NaN
pub not_nan : (x : Float) (s : Bool) (a c : ℕ) → HasValue x s a c → T (not (is_nan x))
unfolding is_nan
not_nan nan s a c v = absurd v
not_nan (inf t) s a c v = tt
not_nan (fin t m e) s a c v = tt

-- x is no NaN where 256 x is at least 0
pub not_nan_scaled : (x : Float) → T (le (fin false 0 (pos 0)) (mul binary32 x scale)) → T (not (is_nan x))
unfolding is_nan mul le lt eq
not_nan_scaled nan t = t
not_nan_scaled (inf s) t = tt
not_nan_scaled (fin s m e) t = tt

-- floats of one pattern are one float
pub same_pattern : (x y : Float) → T (fits binary32 x) → T (fits binary32 y) → to_bits binary32 x ≡ to_bits binary32 y → x ≡ y
same_pattern x y p q e = sym (of_bits-to_bits binary32 x p) ∙ ap (of_bits binary32) e ∙ of_bits-to_bits binary32 y q

-- a figure is a float of 32 bits
pub figure_fits : (n : ℕ) → T (fits binary32 (figure_of n))
unfolding figure_of
figure_fits n = div-fits binary32 (of_int binary32 (pos n)) scale
