-- The figure of n is n / 256 exactly. Assumes nothing.
use mathlib.Core.Path.{◌≡◌, refl, sym, ap, ◌∙◌, subst}
use mathlib.Core.Bool.{Bool, true, false, cond}
use Prim.Native.Nat.{ℕ, ◌+◌, ◌-◌, ◌*◌, ◌/◌, ◌^◌, ◌<◌}
use native.Mathlib.Omega.{arith}
use native.Mathlib.Nat.{mul_assoc, mul_comm, mul-pos, mul_right_comm, mul-div-mul_right, lt_of_lt_of_le}
use lib.Dec.{T, lit<, lit≤}
use lib.Pow.{shl_lt}
use lib.IntN.{pos}
use lib.Ieee.{Float, nan, inf, fin, Format, prec, low, top, hid, size, fits, to_bits, of_bits, binary32, up, down, round, div, of_int}
use lib.Ieee.Bits.{of_bits-to_bits}
use lib.Ieee.Exact.{HasValue, round_exact}
use lib.Ieee.Scale.{round_same}
use lib.Ieee.Back.{round_whole}
use lib.Ieee.Fits.{down_pos}
use Rattle.base_rules.proofs.Logic.{clash}
use Rattle.bandwidth_rules.specs.Figure.{scale, figures, figure_of}

-- a float that is n, divided by 256, is n / 256 rounded
by_256 : (x : Float) (n : ℕ) → HasValue x false n 1 → div binary32 x scale ≡ round binary32 false n 256
unfolding div
by_256 nan n v = absurd v
by_256 (inf s) n v = absurd v
by_256 (fin true m e) n v = clash refl v.0
by_256 (fin false m e) n v =
    round_same binary32 false (m * up e * down (pos 8)) (1 * up (pos 8) * down e) n 256 (mul-pos (lit< tt) (down_pos e)) (lit< tt)
    (cross (m * up e) n (down e) v.1)
  where
    cross : (a n d : ℕ) → a * 1 ≡ n * d → a * 1 * 256 ≡ n * (1 * 256 * d)
    cross a n d h = omega (arith, h)

-- and that needs no rounding: n has 16 binary digits
pub figure_exact : (n : ℕ) → n < figures → HasValue (figure_of n) false n 256
unfolding figure_of of_int
figure_exact n h =
    let digits : n < 2 ^ 16 = lt_of_lt_of_le h (lit≤ tt) in
    subst (λ (x : Float). HasValue x false n 256) (sym (by_256 (round binary32 false n 1) n (round_whole binary32 false n (omega arith))))
    (round_exact binary32 false n 256 n 141 (lit< tt) (lt_of_lt_of_le digits (lit≤ tt)) (lt_of_lt_of_le (shl_lt 16 141 digits) (lit≤ tt))
    (sym (mul_assoc n (2 ^ 141) 256)))

-- the pattern of a value goes by its sign and its size
pattern_of : Format → Bool → ℕ → ℕ
pattern_of f s n = cond s (top f) 0 + (size n - prec f) * hid f + n / 2 ^ (size n - prec f)

-- and its size is the same by either fraction
sized : (p q a c k : ℕ) → 0 < q → 0 < c → p * c ≡ a * q → p * k / q ≡ a * k / c
sized p q a c k hq hc h =
    sym (mul-div-mul_right (p * k) q hc) ∙ ap (λ (x : ℕ). x / (q * c)) (cross p q a c k h)
    ∙ ap (λ (x : ℕ). a * k * q / x) (mul_comm q c) ∙ mul-div-mul_right (a * k) c hq
  where
    cross : (p q a c k : ℕ) → p * c ≡ a * q → p * k * c ≡ a * k * q
    cross p q a c k h = mul_right_comm p k c ∙ ap (λ (x : ℕ). x * k) h ∙ mul_right_comm a q k

-- so a value's pattern is that of its fraction
pattern_is : (f : Format) (x : Float) (s : Bool) (a c : ℕ) → 0 < c → HasValue x s a c → to_bits f x ≡ pattern_of f s (a * 2 ^ low f / c)
unfolding to_bits pattern_of
pattern_is f nan s a c hc v = absurd v
pattern_is f (inf t) s a c hc v = absurd v
pattern_is f (fin t m e) s a c hc v =
    ap (λ (u : Bool). pattern_of f u (m * up e * 2 ^ low f / down e)) v.0
    ∙ ap (pattern_of f s) (sized (m * up e) (down e) a c (2 ^ low f) (down_pos e) hc v.1)

-- two values that a format holds and that are the same number with the same sign are the same float
pub same-value : (f : Format) (x y : Float) (s : Bool) (a c : ℕ) → 0 < c → T (fits f x) → T (fits f y) → HasValue x s a c → HasValue y s a c → x ≡ y
same-value f x y s a c hc p q v w =
    sym (of_bits-to_bits f x p) ∙ ap (of_bits f) (pattern_is f x s a c hc v ∙ sym (pattern_is f y s a c hc w)) ∙ of_bits-to_bits f y q
