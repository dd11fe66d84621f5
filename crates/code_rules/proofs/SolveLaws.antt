-- The loops that find the missing bytes from the syndromes, and the inverses in 48 lanes. Assumes nothing.
use mathlib.Core.Path.{◌≡◌, refl, sym, ap, ap₂, ◌∙◌}
use mathlib.Core.List.{List, [], ◌∷◌}
use Prim.Native.Nat.{ℕ, zero, suc, ◌+◌, ◌-◌, ◌≤◌, ◌<◌}
use native.Mathlib.Numerals.{add-one}
use native.Mathlib.Omega.{arith}
use lib.ListN.{length, drop, get_or, replicate, length-drop, drop_of_length-le}
use lib.Seq.{ext_get_or, drop-cons}
use Rattle.field_rules.specs.Field.{◌⊕◌, ◌⊗◌, pow, inv}
use Rattle.field_rules.proofs.Sums.{add_comm}
use Rattle.field_rules.proofs.Products.{mul_comm, mul_assoc, mul_lt, mul_1_r}
use Rattle.field_rules.proofs.Powers.{pow_0, pow_s, pow-add}
use Rattle.codeword.specs.Code.{plus}
use Rattle.base_rules.specs.Table as tables
use Rattle.code_rules.specs.inner.Words.{table}
use Rattle.codeword.proofs.Poly.{length-plus, plus_at}
use Rattle.codeword.proofs.Vandermonde.{get_or-table}
use Rattle.code_rules.specs.inner.Patterns.{mix, row_of, col_of, mixed}
use Rattle.code_rules.specs.inner.Patterns.{scales_of, times_all, inverses_of}
use Rattle.code_rules.proofs.LaneLaws.{length-table, table_ext}
use Rattle.code_rules.proofs.PatternLaws.{row_of_at, length-row_of, col_of_at, length-col_of}

-- ---- the missing bytes

nil : (s : List ℕ) → mix s [] ≡ 0
unfolding mix
nil s = refl

zeros_table : replicate 48 0 ≡ table 48 (λ j. 0)
unfolding tables.table
zeros_table = refl

mix-cons : (s : List ℕ) (c : ℕ) (l : List ℕ) → mix s (c ∷ l) ≡ get_or s (length l) 0 ⊗ c ⊕ mix s l
unfolding mix
mix-cons s c l = refl

mix-drop : (s l : List ℕ) (e i : ℕ) → length l ≡ e → i < e → mix s (drop (e - (i + 1)) l) ≡ get_or s i 0 ⊗ get_or l (e - 1 - i) 0 ⊕ mix s (drop (e - i) l)
mix-drop s l e i h b =
    ap (λ n. mix s (drop n l)) m1 ∙ ap (mix s) (drop-cons l (e - 1 - i) 0 (omega arith))
    ∙ mix-cons s (get_or l (e - 1 - i) 0) (drop (suc (e - 1 - i)) l)
    ∙ ap₂ (λ n t. get_or s n 0 ⊗ get_or l (e - 1 - i) 0 ⊕ mix s (drop t l)) (omega (arith, length-drop (suc (e - 1 - i)) l)) m2
  where
    m1 : e - (i + 1) ≡ e - 1 - i
    m1 = omega arith

    m2 : suc (e - 1 - i) ≡ e - i
    m2 = omega arith

-- no syndrome yet
pub mixed_start : (s q : List ℕ) (e : ℕ) → replicate 48 0 ≡ table 48 (λ j. mix s (drop (e - 0) (col_of q e j)))
mixed_start s q e =
    zero-table
    ∙ table_ext 48 _ _ (λ j l. sym (ap (mix s) (drop_of_length-le (col_of q e j) {i = e - 0} (omega (arith, length-col_of q e j))) ∙ mix-nil))
  where
    mix-nil : mix s [] ≡ 0
    mix-nil = nil s

    zero-table : replicate 48 0 ≡ table 48 (λ j. 0)
    zero-table = zeros_table

-- one syndrome more
pub mixed_more : (s q y row r : List ℕ) (e i : ℕ) → e ≤ 48 → i < e → y ≡ table 48 (λ j. mix s (drop (e - i) (col_of q e j)))
    → row ≡ row_of q (e - 1 - i) → r ≡ plus (get_or s i 0) row y → r ≡ table 48 (λ j. mix s (drop (e - (i + 1)) (col_of q e j)))
mixed_more s q y row r e i he hi ey er e' =
    ext_get_or 0 r (table 48 (λ j. mix s (drop (e - (i + 1)) (col_of q e j)))) (lr ∙ sym (length-table 48 _))
    (λ j l. let b : j < 48 = omega (arith, lr) in
    ap (λ t. get_or t j 0) e' ∙ plus_at (get_or s i 0) row y j (lrow ∙ sym ly)
    ∙ ap₂ (λ a c. a ⊕ get_or s i 0 ⊗ c) (ap (λ t. get_or t j 0) ey ∙ get_or-table 48 _ j b)
    (ap (λ t. get_or t j 0) er ∙ row_of_at q (e - 1 - i) j b ∙ sym (col_of_at q e j (e - 1 - i) (omega arith)))
    ∙ add_comm (mix s (drop (e - i) (col_of q e j))) (get_or s i 0 ⊗ get_or (col_of q e j) (e - 1 - i) 0)
    ∙ sym (get_or-table 48 (λ j. mix s (drop (e - (i + 1)) (col_of q e j))) j b ∙ mix-drop s (col_of q e j) e i (length-col_of q e j) hi))
  where
    ly : length y ≡ 48
    ly = ap length ey ∙ length-table 48 _

    lrow : length row ≡ 48
    lrow = ap length er ∙ length-row_of q (e - 1 - i)

    lr : length r ≡ 48
    lr = ap length e' ∙ length-plus (get_or s i 0) row y (lrow ∙ sym ly) ∙ ly

-- all syndromes
pub mixed_end : (s q y : List ℕ) (e i : ℕ) → i ≡ e → y ≡ table 48 (λ j. mix s (drop (e - i) (col_of q e j))) → y ≡ mixed s q e
unfolding mixed
mixed_end s q y e i h ey = ey ∙ ap (λ n. table 48 (λ j. mix s (drop n (col_of q e j)))) none
  where
    none : e - i ≡ 0
    none = omega arith

-- ---- the inverses

-- a product in a lane
pub times_all_at : (a b : List ℕ) (i : ℕ) → i < 48 → get_or (times_all a b) i 0 ≡ get_or b i 0 ⊗ get_or a i 0
unfolding times_all
times_all_at a b i h = get_or-table 48 (λ i. get_or b i 0 ⊗ get_or a i 0) i h

-- there are 48 lanes
pub length-times_all : (a b : List ℕ) → length (times_all a b) ≡ 48
unfolding times_all
length-times_all a b = length-table 48 (λ i. get_or b i 0 ⊗ get_or a i 0)

-- 2, 4, 8, ..
pub exp_s : ℕ → ℕ
exp_s zero = 2
exp_s (suc j) = exp_s j + exp_s j

-- 2, 2 + 4, 2 + 4 + 8, ..
pub exp_p : ℕ → ℕ
exp_p zero = 2
exp_p (suc j) = exp_s (suc j) + exp_p j

-- the power n in each lane
pub powers : List ℕ → ℕ → List ℕ
powers x n = table 48 (λ i. pow (get_or x i 0) n)

times_powers : (x a b : List ℕ) (m n : ℕ) → a ≡ powers x m → b ≡ powers x n → times_all a b ≡ powers x (n + m)
unfolding times_all powers
times_powers x a b m n ea eb =
    table_ext 48 _ _
    (λ i h. ap₂ ◌⊗◌ (ap (λ t. get_or t i 0) eb ∙ get_or-table 48 _ i h) (ap (λ t. get_or t i 0) ea ∙ get_or-table 48 _ i h)
    ∙ sym (pow-add (get_or x i 0) n m))

square : (x : List ℕ) → times_all x x ≡ powers x 2
unfolding times_all powers
square x = table_ext 48 _ _ (λ i h. go (get_or x i 0))
  where
    go : (y : ℕ) → y ⊗ y ≡ pow y 2
    go y = sym (pow_s y 1 ∙ ap (λ z. y ⊗ z) (pow_s y 0 ∙ ap (λ z. y ⊗ z) (pow_0 y)) ∙ sym (mul_assoc y y 1) ∙ mul_1_r (y ⊗ y) (mul_lt y y))

-- the square, which is the first power and the first product
pub power_start : (x s : List ℕ) → s ≡ times_all x x → (s ≡ powers x (exp_s 0)) × (s ≡ powers x (exp_p 0))
unfolding exp_s exp_p
power_start x s e = (e ∙ square x, e ∙ square x)

-- the next square, and the product with it
pub power_more : (x s p s2 p2 : List ℕ) (j : ℕ) → s ≡ powers x (exp_s j) → p ≡ powers x (exp_p j) → s2 ≡ times_all s s → p2 ≡ times_all p s2
    → (s2 ≡ powers x (exp_s (j + 1))) × (p2 ≡ powers x (exp_p (j + 1)))
unfolding exp_s exp_p
power_more x s p s2 p2 j es ep e2 q2 = (
  a ∙ ap (λ n. powers x (exp_s n)) (sym (add-one j)),
  q2 ∙ times_powers x p s2 (exp_p j) (exp_s (suc j)) ep a ∙ ap (λ n. powers x (exp_p n)) (sym (add-one j)),
)
  where
    a : s2 ≡ powers x (exp_s (suc j))
    a = e2 ∙ times_powers x s s (exp_s j) (exp_s j) es es

-- six times: x^254
pub power_end : (x p : List ℕ) (j : ℕ) → j ≡ 6 → p ≡ powers x (exp_p j) → p ≡ inverses_of x
unfolding exp_s exp_p powers inverses_of inv
power_end x p j h e = e ∙ ap (λ n. table 48 (λ i. pow (get_or x i 0) (exp_p n))) h

-- the factors are the inverses of the products
pub scales_is : (x d m r : List ℕ) → m ≡ times_all x d → r ≡ inverses_of m → r ≡ scales_of x d
unfolding inverses_of scales_of
scales_is x d m r em er =
    er ∙ table_ext 48 _ _ (λ i h. ap inv (ap (λ t. get_or t i 0) em ∙ times_all_at x d i h ∙ mul_comm (get_or d i 0) (get_or x i 0)))
