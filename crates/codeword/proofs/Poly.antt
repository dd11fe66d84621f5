-- The value of a polynomial: its laws. Assumes nothing.
use mathlib.Core.Path.{◌≡◌, refl, sym, ap, ap₂, ◌∙◌}
use mathlib.Core.List.{List, [], ◌∷◌, ◌++◌}
use Prim.Native.Nat.{ℕ, zero, suc, ◌+◌, ◌<◌}
use native.Mathlib.Nat.{suc_inj, suc-ne-zero}
use native.Mathlib.Numerals.{add-one}
use lib.ListN.{length, take, get_or, replicate}
use lib.Seq.{take-suc}
use Rattle.field_rules.specs.Field.{◌⊕◌, ◌⊗◌, pow}
use Rattle.field_rules.proofs.Sums.{add_assoc, add_0_l, add_0_r, add_self, add_swap}
use Rattle.field_rules.proofs.Products.{mul_comm, mul_assoc, mul-add-l, mul-add_r, mul_0_l, mul_0_r, mul_1_l, mul_1_r}
use Rattle.field_rules.proofs.Powers.{pow_0, pow_s}
use Rattle.codeword.specs.Code.{horner, value, plus}

-- ---- powers

-- c x^n, as n products: with no bound on c
pub raise : ℕ → ℕ → ℕ → ℕ
raise x zero c = c
raise x (suc n) c = raise x n (c ⊗ x)

-- n + 1 products by x are one product, and then n
pub raise_s : (x n c : ℕ) → raise x (suc n) c ≡ raise x n (c ⊗ x)
unfolding raise
raise_s x n c = refl

-- a sum times x^n is the sum of its parts times x^n
pub raise_add : (x n a b : ℕ) → raise x n (a ⊕ b) ≡ raise x n a ⊕ raise x n b
unfolding raise
raise_add x zero a b = refl
raise_add x (suc n) a b = ap (raise x n) (mul-add-l a b x) ∙ raise_add x n (a ⊗ x) (b ⊗ x)

-- raised and multiplied, in either order
pub raise_mul : (x n a b : ℕ) → raise x n (a ⊗ b) ≡ a ⊗ raise x n b
unfolding raise
raise_mul x zero a b = refl
raise_mul x (suc n) a b = ap (raise x n) (mul_assoc a b x) ∙ raise_mul x n a (b ⊗ x)

-- n + 1 products by x are n products, and then one
pub raise_out : (x n c : ℕ) → raise x (suc n) c ≡ raise x n c ⊗ x
raise_out x n c = raise_s x n c ∙ ap (raise x n) (mul_comm c x) ∙ raise_mul x n x c ∙ mul_comm x (raise x n c)

-- 0 times any power is 0
pub raise_0 : (x n : ℕ) → raise x n 0 ≡ 0
unfolding raise
raise_0 x zero = refl
raise_0 x (suc n) = ap (raise x n) (mul_0_l x) ∙ raise_0 x n

-- c times x^n, n not 0, from 1 x^n
pub raise_one : (x n c : ℕ) → x < 256 → c ⊗ raise x (suc n) 1 ≡ raise x (suc n) c
raise_one x n c h =
    ap (λ y. c ⊗ y) (raise_s x n 1 ∙ ap (raise x n) (mul_1_l x h)) ∙ sym (raise_mul x n c x) ∙ sym (raise_s x n c)

-- the same as a power of the field
pub raise_pow : (x n c : ℕ) → c < 256 → raise x n c ≡ c ⊗ pow x n
unfolding raise
raise_pow x zero c h = sym (ap (λ y. c ⊗ y) (pow_0 x) ∙ mul_1_r c h)
raise_pow x (suc n) c h = raise_out x n c ∙ ap (λ y. y ⊗ x) (raise_pow x n c h) ∙ mul_assoc c (pow x n) x
    ∙ ap (λ y. c ⊗ y) (mul_comm (pow x n) x ∙ sym (pow_s x n))

-- ---- Horner's rule

pub horner-value : (x h : ℕ) (l : List ℕ) → horner x h l ≡ raise x (length l) h ⊕ value x l
unfolding horner value raise
horner-value x h [] = sym (add_0_r h)
horner-value x h (c ∷ cs) =
    horner-value x (h ⊗ x ⊕ c) cs
    ∙ ap (λ y. y ⊕ value x cs) (raise_add x (length cs) (h ⊗ x) c)
    ∙ add_assoc (raise x (length cs) (h ⊗ x)) (raise x (length cs) c) (value x cs)
    ∙ ap (λ y. raise x (length cs) (h ⊗ x) ⊕ y)
    (sym (horner-value x (0 ⊗ x ⊕ c) cs ∙ ap (λ y. raise x (length cs) y ⊕ value x cs) (ap (λ y. y ⊕ c) (mul_0_l x) ∙ add_0_l c)))

-- a leading coefficient c adds c x^n to the value, where n coefficients follow it
pub value-cons : (x c : ℕ) (l : List ℕ) → value x (c ∷ l) ≡ raise x (length l) c ⊕ value x l
unfolding value horner
value-cons x c l = ap (λ y. horner x y l) (ap (λ y. y ⊕ c) (mul_0_l x) ∙ add_0_l c) ∙ horner-value x c l

-- a polynomial of no coefficients has the value 0
pub value-nil : (x : ℕ) → value x [] ≡ 0
unfolding value horner
value-nil x = refl

-- over two lists in a row, Horner's rule goes on in the second from what the first came to
pub horner-append : (x h : ℕ) (l m : List ℕ) → horner x h (l ++ m) ≡ horner x (horner x h l) m
unfolding horner
horner-append x h [] m = refl
horner-append x h (c ∷ l) m = horner-append x (h ⊗ x ⊕ c) l m

-- the value of two lists in a row: the first's value raised by the second's length, plus the second's value
pub value-append : (x : ℕ) (l m : List ℕ) → value x (l ++ m) ≡ raise x (length m) (value x l) ⊕ value x m
unfolding value
value-append x l m = horner-append x 0 l m ∙ horner-value x (value x l) m

-- one more place at the end
pub value_snoc : (x : ℕ) (l : List ℕ) (c : ℕ) → value x (l ++ (c ∷ [])) ≡ value x l ⊗ x ⊕ c
unfolding value horner
value_snoc x l c = horner-append x 0 l (c ∷ [])

-- a walk along a word, one byte more
pub horner-take : (x h : ℕ) (w : List ℕ) (i : ℕ) → i < length w → horner x h (take (i + 1) w) ≡ horner x h (take i w) ⊗ x ⊕ get_or w i 0
unfolding horner
horner-take x h w i l =
    ap (λ n. horner x h (take n w)) (add-one i) ∙ ap (horner x h) (take-suc w i 0 l) ∙ horner-append x h (take i w) (get_or w i 0 ∷ [])

-- where all coefficients are 0, the value is 0
pub value_zeros : (x n : ℕ) → value x (replicate n 0) ≡ 0
value_zeros x zero = value-nil x
value_zeros x (suc n) = value-cons x 0 (replicate n 0) ∙ ap₂ ◌⊕◌ (raise_0 x (length (replicate n 0))) (value_zeros x n) ∙ add_self 0

-- ---- sums of polynomials

-- the sum of two polynomials of one length has that length
pub length-plus : (f : ℕ) (gs ss : List ℕ) → length gs ≡ length ss → length (plus f gs ss) ≡ length ss
unfolding plus
length-plus f [] [] e = refl
length-plus f [] (s ∷ ss) e = e
length-plus f (g ∷ gs) [] e = refl
length-plus f (g ∷ gs) (s ∷ ss) e = ap suc (length-plus f gs ss (suc_inj e))

-- each coefficient of the sum is that of ss plus f times that of gs, where these have one length
pub plus_at : (f : ℕ) (gs ss : List ℕ) (i : ℕ) → length gs ≡ length ss → get_or (plus f gs ss) i 0 ≡ get_or ss i 0 ⊕ f ⊗ get_or gs i 0
unfolding plus
plus_at f [] [] i e = sym (add_0_l (f ⊗ 0) ∙ mul_0_r f)
plus_at f [] (s ∷ ss) i e = absurd (suc-ne-zero (length ss) (sym e))
plus_at f (g ∷ gs) [] i e = absurd (suc-ne-zero (length gs) e)
plus_at f (g ∷ gs) (s ∷ ss) zero e = refl
plus_at f (g ∷ gs) (s ∷ ss) (suc i) e = plus_at f gs ss i (suc_inj e)

-- the value of the sum is that of ss plus f times that of gs, where these have one length
pub value-plus : (x f : ℕ) (gs ss : List ℕ) → length gs ≡ length ss → value x (plus f gs ss) ≡ value x ss ⊕ f ⊗ value x gs
unfolding plus
value-plus x f [] [] e = value-nil x ∙ sym (ap₂ (λ a b. a ⊕ f ⊗ b) (value-nil x) (value-nil x) ∙ add_0_l (f ⊗ 0) ∙ mul_0_r f)
value-plus x f [] (s ∷ ss) e = absurd (suc-ne-zero (length ss) (sym e))
value-plus x f (g ∷ gs) [] e = absurd (suc-ne-zero (length gs) e)
value-plus x f (g ∷ gs) (s ∷ ss) e =
    value-cons x (s ⊕ f ⊗ g) (plus f gs ss)
    ∙ ap₂ ◌⊕◌
    (ap (λ n. raise x n (s ⊕ f ⊗ g)) (length-plus f gs ss d) ∙ raise_add x (length ss) s (f ⊗ g)
    ∙ ap (λ y. raise x (length ss) s ⊕ y) (raise_mul x (length ss) f g ∙ ap (λ n. f ⊗ raise x n g) (sym d)))
    (value-plus x f gs ss d)
    ∙ add_swap (raise x (length ss) s) (f ⊗ raise x (length gs) g) (value x ss) (f ⊗ value x gs)
    ∙ ap₂ ◌⊕◌ (sym (value-cons x s ss)) (sym (mul-add_r f (raise x (length gs) g) (value x gs)) ∙ ap (λ y. f ⊗ y) (sym (value-cons x g gs)))
  where
    d : length gs ≡ length ss
    d = suc_inj e
