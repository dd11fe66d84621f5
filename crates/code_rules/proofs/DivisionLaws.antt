-- The locator polynomial: its roots, and what it is divided by z + x. Assumes nothing.
use mathlib.Core.Path.{◌≡◌, refl, sym, ap, ap₂, ◌∙◌, subst}
use mathlib.Core.List.{List, [], ◌∷◌, ◌++◌}
use Prim.Native.Nat.{ℕ, zero, suc, ◌+◌, ◌<◌, suc-le-suc}
use native.Mathlib.Nat.{not-suc-le-zero, le_of_suc-le-suc, zero-lt-suc, add-zero}
use native.Mathlib.Omega.{arith}
use lib.Dec.{lit<}
use lib.ListN.{length, take, get_or}
use lib.Seq.{take-suc, take_all, length-take-le}
use Rattle.field_rules.specs.Field.{◌⊕◌, ◌⊗◌}
use Rattle.field_rules.proofs.Sums.{sums, add_0_l, add_0_r, add_self, add_lt}
use Rattle.field_rules.proofs.Products.{mul_lt, mul_comm, mul_assoc, mul-add-l, mul-add_r, mul_0_l, mul_0_r}
use Rattle.field_rules.proofs.Powers.{mul-zero}
use Rattle.codeword.specs.Code.{horner, value, plus, times_root}
use Rattle.base_rules.specs.Bytes.{Bytes}
use Rattle.codeword.proofs.Poly.{length-plus}
use Rattle.codeword.proofs.Encoder.{value_root, length_snoc, bytes-plus}
use Rattle.base_rules.proofs.ByteLaws.{bytes_take, bytes-append}
use Rattle.codeword.specs.Locators.{Apart, Distinct}
use Rattle.codeword.proofs.Vandermonde.{apart_pos}
use Rattle.code_rules.specs.inner.Patterns.{roots_times, locator_of, prefixes}

-- ---- roots

roots_vanish : (y : ℕ) (p xs : List ℕ) → value y p ≡ 0 → value y (roots_times p xs) ≡ 0
unfolding roots_times
roots_vanish y p [] e = e
roots_vanish y p (x ∷ xs) e =
    roots_vanish y (times_root x p) xs (value_root y x p ∙ ap (λ v. v ⊗ y ⊕ x ⊗ v) e ∙ ap₂ ◌⊕◌ (mul_0_l y) (mul_0_r x) ∙ add_self 0)

-- each member of xs is a root
pub roots_root : (p xs : List ℕ) (i : ℕ) → i < length xs → value (get_or xs i 0) (roots_times p xs) ≡ 0
unfolding roots_times
roots_root p [] i h = absurd (not-suc-le-zero h)
roots_root p (x ∷ xs) zero h =
    roots_vanish x (times_root x p) xs
    (value_root x x p ∙ ap (λ v. v ⊕ x ⊗ value x p) (mul_comm (value x p) x) ∙ add_self (x ⊗ value x p))
roots_root p (x ∷ xs) (suc i) h = roots_root (times_root x p) xs i (le_of_suc-le-suc h)

-- 1 stays the highest coefficient, and the degree grows by one for each root
pub roots_monic : (t xs : List ℕ) → (u : List ℕ) × (roots_times (1 ∷ t) xs ≡ 1 ∷ u) × (length u ≡ length t + length xs)
unfolding roots_times times_root plus
roots_monic t [] = (t, refl, sym (add-zero (length t)))
roots_monic t (x ∷ xs) = go (roots_monic (plus x (1 ∷ t) (t ++ (0 ∷ []))) xs)
  where
    size : length (plus x (1 ∷ t) (t ++ (0 ∷ []))) ≡ suc (length t)
    size = length-plus x (1 ∷ t) (t ++ (0 ∷ [])) (sym (length_snoc t 0)) ∙ length_snoc t 0

    go : (u : List ℕ) × (roots_times (1 ∷ plus x (1 ∷ t) (t ++ (0 ∷ []))) xs ≡ 1 ∷ u)
        × (length u ≡ length (plus x (1 ∷ t) (t ++ (0 ∷ []))) + length xs)
        → (u : List ℕ) × (roots_times (times_root x (1 ∷ t)) xs ≡ 1 ∷ u) × (length u ≡ length t + suc (length xs))
    go (u, e, l) = (
      u,
      ap (λ h. roots_times (h ∷ plus x (1 ∷ t) (t ++ (0 ∷ []))) xs) (ap (λ y. 1 ⊕ y) (mul_0_r x) ∙ add_0_r 1) ∙ e,
      l ∙ ap (λ n. n + length xs) size ∙ omega arith,
    )

-- the locator polynomial has one coefficient more than roots
pub length-locator_of : (xs : List ℕ) → length (locator_of xs) ≡ suc (length xs)
unfolding locator_of
length-locator_of xs = ap length (roots_monic [] xs).1 ∙ ap suc ((roots_monic [] xs).2 ∙ omega arith)

-- its coefficients are bytes
pub bytes-roots : (p xs : List ℕ) → Bytes p → Bytes (roots_times p xs)
unfolding roots_times times_root
bytes-roots p [] b = b
bytes-roots p (x ∷ xs) b = bytes-roots (times_root x p) xs (bytes-plus x (0 ∷ p) (p ++ (0 ∷ [])) (bytes-append p (0 ∷ []) b (lit< tt, tt)))

-- ---- divided by z + x

-- the quotient's coefficients are bytes
pub bytes-prefixes : (x h : ℕ) (l : List ℕ) → Bytes l → Bytes (prefixes x h l)
unfolding prefixes
bytes-prefixes x h [] b = tt
bytes-prefixes x h (c ∷ l) b = (add_lt (mul_lt h x) b.0, bytes-prefixes x (h ⊗ x ⊕ c) l b.1)

-- the quotient has as many coefficients as it is made of
pub length-prefixes : (x h : ℕ) (l : List ℕ) → length (prefixes x h l) ≡ length l
unfolding prefixes
length-prefixes x h [] = refl
length-prefixes x h (c ∷ l) = ap suc (length-prefixes x (h ⊗ x ⊕ c) l)

horner_lt : (x h : ℕ) (l : List ℕ) → h < 256 → Bytes l → horner x h l < 256
unfolding horner
horner_lt x h [] hh b = hh
horner_lt x h (c ∷ l) hh b = horner_lt x (h ⊗ x ⊕ c) l (add_lt (mul_lt h x) b.0) b.1

-- the value of bytes is a byte
pub value_lt : (x : ℕ) (l : List ℕ) → Bytes l → value x l < 256
unfolding value
value_lt x l b = horner_lt x 0 l (lit< tt) b

cancel_last : (a b c : ℕ) → a ⊕ c ⊕ (b ⊕ c) ≡ a ⊕ b
cancel_last a b c = simp sums

divide_value : (x y g h v c : ℕ) (l : List ℕ) → g ⊗ y ⊕ h ⊗ x ≡ (y ⊕ x) ⊗ v
    → horner y g (l ++ (c ∷ [])) ⊕ horner x h (l ++ (c ∷ [])) ≡ (y ⊕ x) ⊗ horner y v (prefixes x h l)
unfolding horner prefixes
divide_value x y g h v c [] e = cancel_last (g ⊗ y) (h ⊗ x) c ∙ e
divide_value x y g h v c (d ∷ l) e =
    divide_value x y (g ⊗ y ⊕ d) (h ⊗ x ⊕ d) (v ⊗ y ⊕ (h ⊗ x ⊕ d)) c l
    (sym (mul-add_r (y ⊕ x) (v ⊗ y) (h ⊗ x ⊕ d)
    ∙ ap (λ z. z ⊕ (y ⊕ x) ⊗ (h ⊗ x ⊕ d)) (sym (mul_assoc (y ⊕ x) v y) ∙ ap (λ z. z ⊗ y) (sym e))
    ∙ mid (g ⊗ y) (h ⊗ x)))
  where
    swap : (p q r s : ℕ) → p ⊕ q ⊕ (q ⊕ r ⊕ s) ≡ p ⊕ r ⊕ s
    swap p q r s = simp sums

    mid : (a b : ℕ) → (a ⊕ b) ⊗ y ⊕ (y ⊕ x) ⊗ (b ⊕ d) ≡ (a ⊕ d) ⊗ y ⊕ (b ⊕ d) ⊗ x
    mid a b =
        ap₂ ◌⊕◌ (mul-add-l a b y) (mul_comm (y ⊕ x) (b ⊕ d) ∙ mul-add_r (b ⊕ d) y x ∙ ap (λ z. z ⊕ (b ⊕ d) ⊗ x) (mul-add-l b d y))
        ∙ swap (a ⊗ y) (b ⊗ y) (d ⊗ y) ((b ⊕ d) ⊗ x) ∙ ap (λ z. z ⊕ (b ⊕ d) ⊗ x) (sym (mul-add-l a d y))

-- a list with one element more, as its front and its last
front : (n : ℕ) (l : List ℕ) → length l ≡ suc n → l ≡ take n l ++ (get_or l n 0 ∷ [])
front n l e = sym (take_all (suc n) l (omega arith)) ∙ take-suc l n 0 (omega arith)

divide_at : (x y n : ℕ) (l : List ℕ) → length l ≡ suc n → value x l ≡ 0 → value y l ≡ 0 → (y ⊕ x) ⊗ value y (prefixes x 0 (take n l)) ≡ 0
unfolding value
divide_at x y n l e ex ey =
    sym (ap₂ (λ a b. value y a ⊕ value x b) (front n l e) (front n l e)
    ∙ divide_value x y 0 0 0 (get_or l n 0) (take n l) (ap₂ ◌⊕◌ (mul_0_l y) (mul_0_l x) ∙ add_self 0 ∙ sym (mul_0_r (y ⊕ x))))
    ∙ ap₂ ◌⊕◌ ey ex ∙ add_self 0

-- the quotient by z + x has the other roots still
pub divide_zero : (x y n : ℕ) (l : List ℕ) → length l ≡ suc n → Bytes l → x < 256 → y < 256 → (y ≡ x → ⊥) → value x l ≡ 0 → value y l ≡ 0
    → value y (prefixes x 0 (take n l)) ≡ 0
divide_zero x y n l e b hx hy a ex ey =
    mul-zero (value y (prefixes x 0 (take n l))) (y ⊕ x) (value_lt y (prefixes x 0 (take n l)) (bytes-prefixes x 0 (take n l) (bytes_take n l b)))
    (apart_pos y x a) (add_lt hy hx) (mul_comm _ (y ⊕ x) ∙ divide_at x y n l e ex ey)

-- ---- a polynomial with 1 before its highest power has no more roots than its degree

-- each member of xs is a root of p
pub Vanish : List ℕ → List ℕ → Type 0
Vanish p [] = Unit {0}
Vanish p (x ∷ xs) = (value x p ≡ 0) × Vanish p xs

-- the same by the members' numbers
pub vanish_of : (p xs : List ℕ) → ((i : ℕ) → i < length xs → value (get_or xs i 0) p ≡ 0) → Vanish p xs
unfolding Vanish
vanish_of p [] h = tt
vanish_of p (x ∷ xs) h = (h 0 (zero-lt-suc (length xs)), vanish_of p xs (λ i l. h (suc i) (suc-le-suc l)))

vanish_divided : (x n : ℕ) (p xs : List ℕ) → length p ≡ suc n → Bytes p → x < 256 → Bytes xs → Apart x xs → value x p ≡ 0 → Vanish p xs
    → Vanish (prefixes x 0 (take n p)) xs
unfolding Vanish
vanish_divided x n p [] e b hx bx a ex v = tt
vanish_divided x n p (y ∷ ys) e b hx bx a ex v =
    (divide_zero x y n p e b hx bx.0 a.0 ex v.0, vanish_divided x n p ys e b hx bx.1 a.1 ex v.1)

-- THE ROOTS are not more than the degree
pub monic_roots : (xs t : List ℕ) → Bytes xs → Distinct xs → Bytes t → length t < length xs → Vanish (1 ∷ t) xs → ⊥
unfolding Vanish prefixes value horner
monic_roots [] t bx d bt h v = not-suc-le-zero h
monic_roots (x ∷ xs) [] bx d bt h v =
    let z : ◌≡◌ {A = ℕ} 1 0 = sym (ap (λ y. y ⊕ 1) (mul_0_l x) ∙ add_0_l 1) ∙ v.0 in
    omega arith
monic_roots (x ∷ xs) (c ∷ t) bx d bt h v =
    monic_roots xs (prefixes x 1 (take (length t) (c ∷ t))) bx.1 d.1
    (bytes-prefixes x 1 (take (length t) (c ∷ t)) (bytes_take (length t) (c ∷ t) bt))
    (omega (arith, length-prefixes x 1 (take (length t) (c ∷ t)), length-take-le (length t) (c ∷ t) (omega arith)))
    (subst (λ o. Vanish (o ∷ prefixes x o (take (length t) (c ∷ t))) xs) (ap (λ y. y ⊕ 1) (mul_0_l x) ∙ add_0_l 1)
    (vanish_divided x (suc (length t)) (1 ∷ (c ∷ t)) xs refl (lit< tt, bt) bx.0 bx.1 d.0 v.0 v.1))
