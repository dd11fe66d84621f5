-- Which floats are figures, and of which number; figures in their order. Assumes nothing.
use mathlib.Core.Path.{◌≡◌, refl, sym, ap, ◌∙◌}
use mathlib.Core.Bool.{true, false}
use Prim.Native.Nat.{ℕ, ◌*◌, ◌/◌, ◌%◌, ◌≤◌, ◌<◌}
use native.Mathlib.Omega.{arith}
use native.Mathlib.Nat.{mul_comm, mul_assoc, mul_right_comm, mul-pos, mul-div_cancel, mul-mod_left, div-add-mod, le_of_mul-le-mul_right, mul-le-mul_right}
use lib.Dec.{T, eqb, ltb, lit<}
use borrow.Author.Tests.{eq-eqb, eqb-true, lt-ltb, le-ltb, ltb-true, ltb-false}
use lib.Ieee.{Float, nan, inf, fin, binary32, up, down, fits, lt}
use lib.Ieee.Exact.{HasValue}
use lib.Ieee.Fits.{down_pos}
use lib.Ieee.Order.{transfer}
use Rattle.std.specs.Prelude.{Some, None}
use Rattle.base_rules.proofs.Logic.{either, clash, and_left, and_right}
use Rattle.item_rules.proofs.Steps.{zero_one}
use Rattle.bandwidth_rules.specs.Figure.{figures, figure_of, in256ths, is_figure, whole_of}
use Rattle.bandwidth_rules.specs.Claims.{OnlyFigure, OneFigure, OrderKept, FigureOf, FigureTested, OthersOut, others}
use Rattle.bandwidth_rules.proofs.Exact.{figure_exact, same-value}
use Rattle.bandwidth_rules.proofs.Range.{figure_fits}

-- a float that passes the test is so many 256ths in size,
pub test_value : (x : Float) → is_figure x ≡ true → HasValue x false (in256ths x) 256
unfolding is_figure in256ths
test_value nan t = clash t refl
test_value (inf s) t = clash t refl
test_value (fin true m e) t = clash t refl
test_value (fin false m e) t =
    let a : ℕ = m * up e * 256 in
    let whole : a % down e ≡ 0 = eqb-true _ _ (and_left (eqb (a % down e) 0) (ltb (a / down e) figures) t) in
    (refl, sym (div-add-mod a (down e)) ∙ omega (arith, whole, mul_comm (down e) (a / down e)))

-- and is below 256
pub test_below : (x : Float) → is_figure x ≡ true → in256ths x < figures
unfolding is_figure
test_below nan t = clash t refl
test_below (inf s) t = clash t refl
test_below (fin true m e) t = clash t refl
test_below (fin false m e) t = ltb-true _ _ (and_right (eqb (m * up e * 256 % down e) 0) (ltb (in256ths (fin false m e)) figures) t)

-- what is n / 256 passes it, and has n 256ths
pub value_test : (x : Float) (n : ℕ) → n < figures → HasValue x false n 256 → (is_figure x ≡ true) × (in256ths x ≡ n)
unfolding is_figure in256ths
value_test nan n h v = absurd v
value_test (inf s) n h v = absurd v
value_test (fin true m e) n h v = clash refl v.0
value_test (fin false m e) n h v =
    let a : ℕ = m * up e * 256 in
    let whole : a % down e ≡ 0 = ap (λ (k : ℕ). k % down e) v.1 ∙ mul-mod_left n (down e) in
    let many : a / down e ≡ n = ap (λ (k : ℕ). k / down e) v.1 ∙ mul-div_cancel n (down_pos e) in
    (simp (eq-eqb (a % down e) 0 whole) (lt-ltb (a / down e) figures (omega (arith, many))), many)

-- every figure does
pub figure_test : (n : ℕ) → n < figures → (is_figure (figure_of n) ≡ true) × (in256ths (figure_of n) ≡ n)
figure_test n h = value_test (figure_of n) n h (figure_exact n h)

pub only_figure : OnlyFigure
only_figure x n held h v = same-value binary32 x (figure_of n) false n 256 (lit< tt) held (figure_fits n) v (figure_exact n h)

pub one_figure : OneFigure
one_figure n m h k e = sym (figure_test n h).1 ∙ ap in256ths e ∙ (figure_test m k).1

pub figure_tested : FigureTested
figure_tested x held =
    record {
      is = λ t. (test_below x t, only_figure x (in256ths x) held (test_below x t) (test_value x t));
      passes = λ n f. value_test x n f.0 (rw f.1 (figure_exact n f.0));
    }

pub others-out : OthersOut
unfolding others is_figure in256ths
others-out = refl

-- which figure a float is, by what is known of it: it is that of n,
pub whole_of_lem : (x : Float) (n : ℕ) → T (fits binary32 x) → FigureOf x n → Some n ≡ whole_of x
unfolding whole_of
whole_of_lem x n held f = let t = (figure_tested x held).passes n f in ap Some (sym t.1) ∙ sym (simp t.0)

-- or of none
pub whole_none : (x : Float) → T (fits binary32 x) → ((n : ℕ) → FigureOf x n → ⊥) → None ≡ whole_of x
unfolding whole_of
whole_none x held none = either (is_figure x) (λ t. absurd (none _ ((figure_tested x held).is t))) (λ f. sym (simp f))

-- and back
pub of_whole : (x : Float) (n : ℕ) → whole_of x ≡ Some n → (is_figure x ≡ true) × (in256ths x ≡ n)
unfolding whole_of
of_whole x n e = either (is_figure x) (λ t. (t, of_is (rw t at e))) (λ f. absurd (of_not (rw f at e)))
  where
    of_is : {m : ℕ} → Some m ≡ Some n → m ≡ n
    of_is q = cc

    of_not : None ≡ Some n → ⊥
    of_not q = zero_one (cc)

pub none_whole : (x : Float) → whole_of x ≡ None → is_figure x ≡ false
unfolding whole_of
none_whole x e = either (is_figure x) (λ t. absurd (of_not (rw t at e))) (λ f. f)
  where
    of_not : {m : ℕ} → Some m ≡ None → ⊥
    of_not q = zero_one (cc)

-- ---- the order

-- sizes over the same denominator, crosswise
back : (x y d g a b c : ℕ) → 0 < d → 0 < g → x * c ≡ a * d → y * c ≡ b * g → y * d ≤ x * g → b ≤ a
back x y d g a b c hd hg ex ey h =
    let left : b * (d * g) ≡ y * d * c = mul_right_comm3 b d g ∙ ap (λ (k : ℕ). k * d) (sym ey) ∙ mul_right_comm y c d in
    let right : x * g * c ≡ a * (d * g) = mul_right_comm x g c ∙ ap (λ (k : ℕ). k * g) ex ∙ mul_assoc a d g in
    le_of_mul-le-mul_right (rw (left, ← right) (mul-le-mul_right c h)) (mul-pos hd hg)
  where
    mul_right_comm3 : (b d g : ℕ) → b * (d * g) ≡ b * g * d
    mul_right_comm3 b d g = sym (mul_assoc b d g) ∙ mul_right_comm b d g

-- of two floats without a minus sign the one with the smaller number over c is the smaller
pub lt_of_values : (x y : Float) (a b c : ℕ) → 0 < c → HasValue x false a c → HasValue y false b c → lt x y ≡ ltb a b
unfolding lt
lt_of_values nan y a b c h v w = absurd v
lt_of_values (inf s) y a b c h v w = absurd v
lt_of_values (fin s m e) nan a b c h v w = absurd w
lt_of_values (fin s m e) (inf t) a b c h v w = absurd w
lt_of_values (fin true m e) (fin t n d) a b c h v w = clash refl v.0
lt_of_values (fin false m e) (fin true n d) a b c h v w = clash refl w.0
lt_of_values (fin false m e) (fin false n d) a b c h v w =
    let x : ℕ = m * up e in
    let y : ℕ = n * up d in
    either (ltb (x * down d) (y * down e))
    (λ t. t ∙ sym (either (ltb a b) (λ q. q)
    (λ q. let k : y * down e ≤ x * down d = transfer y x (down d) (down e) b a c c h h w.1 v.1 (mul-le-mul_right c (ltb-false _ _ q)) in
    absurd (less k (ltb-true _ _ t)))))
    (λ f. f ∙ sym (le-ltb a b (back x y (down e) (down d) a b c (down_pos e) (down_pos d) v.1 w.1 (ltb-false _ _ f))))
  where
    less : {p q : ℕ} → p ≤ q → q < p → ⊥
    less k l = omega arith

pub order_kept : OrderKept
order_kept n m h k = lt_of_values (figure_of n) (figure_of m) n m 256 (lit< tt) (figure_exact n h) (figure_exact m k)
