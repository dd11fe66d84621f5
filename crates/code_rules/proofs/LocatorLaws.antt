-- What the locator polynomial divided by z + x picks out of the syndromes: one value. Assumes nothing.
use mathlib.Core.Path.{◌≡◌, refl, sym, ap, ap₂, ◌∙◌, subst}
use mathlib.Core.List.{List, [], ◌∷◌}
use Prim.Native.Nat.{ℕ, zero, suc, ◌+◌, ◌<◌, suc-le-suc}
use native.Mathlib.Nat.{suc_inj, suc-ne-zero, not-suc-le-zero, le_of_suc-le-suc, zero-lt-suc}
use native.Mathlib.Decide.{ℕ_discrete}
use native.Mathlib.Omega.{arith}
use lib.Dec.{lit<}
use lib.ListN.{length, take, get_or}
use lib.Seq.{length-take-le}
use Rattle.field_rules.specs.Field.{◌⊕◌, ◌⊗◌, pow, inv}
use Rattle.field_rules.proofs.Sums.{add_0_l, add_0_r, add_self, add_swap}
use Rattle.field_rules.proofs.Products.{mul_lt, mul_comm, mul_assoc, mul-add-l, mul-add_r, mul_0_l, mul_0_r}
use Rattle.field_rules.proofs.Powers.{pow_s, mul-div, mul-pos}
use Rattle.codeword.specs.Code.{value}
use Rattle.base_rules.specs.Bytes.{Bytes}
use Rattle.codeword.proofs.Poly.{raise_pow, value-cons, value-nil}
use Rattle.base_rules.proofs.ByteLaws.{bytes_take}
use Rattle.codeword.specs.Locators.{Apart, Distinct, Positive, sum_at}
use Rattle.code_rules.specs.inner.Patterns.{roots_times, locator_of, prefixes, column, mix}
use Rattle.code_rules.proofs.DivisionLaws.{roots_root, roots_monic, length-locator_of, bytes-roots, bytes-prefixes, length-prefixes}
use Rattle.code_rules.proofs.DivisionLaws.{value_lt, divide_zero, Vanish, vanish_of, monic_roots}

-- ---- the columns

distinct_at : (xs : List ℕ) (i j : ℕ) → Distinct xs → i < length xs → j < length xs → (i ≡ j → ⊥) → get_or xs i 0 ≡ get_or xs j 0 → ⊥
distinct_at [] i j d hi hj n e = not-suc-le-zero hi
distinct_at (x ∷ xs) zero zero d hi hj n e = n refl
distinct_at (x ∷ xs) zero (suc j) d hi hj n e = apart_at x xs j d.0 (le_of_suc-le-suc hj) (sym e)
  where
    apart_at : (x : ℕ) (xs : List ℕ) (j : ℕ) → Apart x xs → j < length xs → get_or xs j 0 ≡ x → ⊥
    apart_at x [] j a h e = not-suc-le-zero h
    apart_at x (y ∷ ys) zero a h e = a.0 e
    apart_at x (y ∷ ys) (suc j) a h e = apart_at x ys j a.1 (le_of_suc-le-suc h) e
distinct_at (x ∷ xs) (suc i) zero d hi hj n e = apart_at x xs i d.0 (le_of_suc-le-suc hi) e
  where
    apart_at : (x : ℕ) (xs : List ℕ) (j : ℕ) → Apart x xs → j < length xs → get_or xs j 0 ≡ x → ⊥
    apart_at x [] j a h e = not-suc-le-zero h
    apart_at x (y ∷ ys) zero a h e = a.0 e
    apart_at x (y ∷ ys) (suc j) a h e = apart_at x ys j a.1 (le_of_suc-le-suc h) e
distinct_at (x ∷ xs) (suc i) (suc j) d hi hj n e = distinct_at xs i j d.1 (le_of_suc-le-suc hi) (le_of_suc-le-suc hj) (λ q. n (ap suc q)) e

bytes_at_lem : (xs : List ℕ) (i : ℕ) → Bytes xs → get_or xs i 0 < 256
bytes_at_lem [] i b = lit< tt
bytes_at_lem (x ∷ xs) zero b = b.0
bytes_at_lem (x ∷ xs) (suc i) b = bytes_at_lem xs i b.1

positive_at : (xs : List ℕ) (i : ℕ) → Positive xs → i < length xs → 0 < get_or xs i 0
positive_at [] i p h = absurd (not-suc-le-zero h)
positive_at (x ∷ xs) zero p h = p.0
positive_at (x ∷ xs) (suc i) p h = positive_at xs i p.1 (le_of_suc-le-suc h)

-- the sum of y x times q's value at x
sum_q : List ℕ → List ℕ → List ℕ → ℕ
sum_q [] ys q = 0
sum_q (x ∷ xs) [] q = 0
sum_q (x ∷ xs) (y ∷ ys) q = y ⊗ x ⊗ value x q ⊕ sum_q xs ys q

sum_q_nil : (xs ys : List ℕ) → sum_q xs ys [] ≡ 0
unfolding sum_q
sum_q_nil [] ys = refl
sum_q_nil (x ∷ xs) [] = refl
sum_q_nil (x ∷ xs) (y ∷ ys) = ap₂ ◌⊕◌ (ap (λ v. y ⊗ x ⊗ v) (value-nil x) ∙ mul_0_r (y ⊗ x)) (sum_q_nil xs ys) ∙ add_self 0

sum_q_cons : (xs ys : List ℕ) (c : ℕ) (q : List ℕ) → c < 256 → sum_q xs ys (c ∷ q) ≡ sum_at xs ys (suc (length q)) ⊗ c ⊕ sum_q xs ys q
unfolding sum_q sum_at
sum_q_cons [] ys c q h = sym (ap (λ a. a ⊕ 0) (mul_0_l c) ∙ add_self 0)
sum_q_cons (x ∷ xs) [] c q h = sym (ap (λ a. a ⊕ 0) (mul_0_l c) ∙ add_self 0)
sum_q_cons (x ∷ xs) (y ∷ ys) c q h =
    ap₂ ◌⊕◌
    (ap (λ v. y ⊗ x ⊗ v) (value-cons x c q ∙ ap (λ r. r ⊕ value x q) (raise_pow x (length q) c h))
    ∙ mul-add_r (y ⊗ x) (c ⊗ pow x (length q)) (value x q)
    ∙ ap (λ z. z ⊕ y ⊗ x ⊗ value x q) turn)
    (sum_q_cons xs ys c q h)
    ∙ add_swap (y ⊗ pow x (suc (length q)) ⊗ c) (y ⊗ x ⊗ value x q) (sum_at xs ys (suc (length q)) ⊗ c) (sum_q xs ys q)
    ∙ ap (λ z. z ⊕ (y ⊗ x ⊗ value x q ⊕ sum_q xs ys q)) (sym (mul-add-l (y ⊗ pow x (suc (length q))) (sum_at xs ys (suc (length q))) c))
  where
    turn : y ⊗ x ⊗ (c ⊗ pow x (length q)) ≡ y ⊗ pow x (suc (length q)) ⊗ c
    turn = ap (λ z. y ⊗ x ⊗ z) (mul_comm c (pow x (length q))) ∙ sym (mul_assoc (y ⊗ x) (pow x (length q)) c)
        ∙ ap (λ z. z ⊗ c) (mul_assoc y x (pow x (length q)) ∙ ap (λ z. y ⊗ z) (sym (pow_s x (length q))))

mix-sum : (s xs ys q : List ℕ) → Bytes q → ((i : ℕ) → i < length q → get_or s i 0 ≡ sum_at xs ys (suc i)) → mix s q ≡ sum_q xs ys q
unfolding mix
mix-sum s xs ys [] b h = sym (sum_q_nil xs ys)
mix-sum s xs ys (c ∷ q) b h =
    ap₂ (λ a r. a ⊗ c ⊕ r) (h (length q) (omega arith)) (mix-sum s xs ys q b.1 (λ i l. h i (omega arith))) ∙ sym (sum_q_cons xs ys c q b.0)

sum_q_zero : (xs ys q : List ℕ) → ((i : ℕ) → i < length xs → value (get_or xs i 0) q ≡ 0) → sum_q xs ys q ≡ 0
unfolding sum_q
sum_q_zero [] ys q h = refl
sum_q_zero (x ∷ xs) [] q h = refl
sum_q_zero (x ∷ xs) (y ∷ ys) q h =
    ap₂ ◌⊕◌ (ap (λ v. y ⊗ x ⊗ v) (h 0 (zero-lt-suc (length xs))) ∙ mul_0_r (y ⊗ x)) (sum_q_zero xs ys q (λ i l. h (suc i) (suc-le-suc l))) ∙ add_self 0

sum_q_one : (xs ys q : List ℕ) (j : ℕ) → j < length xs → length xs ≡ length ys → ((i : ℕ) → i < length xs → (i ≡ j → ⊥) → value (get_or xs i 0) q ≡ 0)
    → sum_q xs ys q ≡ get_or ys j 0 ⊗ get_or xs j 0 ⊗ value (get_or xs j 0) q
unfolding sum_q
sum_q_one [] ys q j l e h = absurd (not-suc-le-zero l)
sum_q_one (x ∷ xs) [] q j l e h = absurd (suc-ne-zero (length xs) e)
sum_q_one (x ∷ xs) (y ∷ ys) q zero l e h =
    ap (λ z. y ⊗ x ⊗ value x q ⊕ z) (sum_q_zero xs ys q (λ i b. h (suc i) (suc-le-suc b) (λ z. suc-ne-zero i z))) ∙ add_0_r (y ⊗ x ⊗ value x q)
sum_q_one (x ∷ xs) (y ∷ ys) q (suc j) l e h =
    ap₂ ◌⊕◌ (ap (λ v. y ⊗ x ⊗ v) (h 0 (zero-lt-suc (length xs)) (λ z. suc-ne-zero j (sym z))) ∙ mul_0_r (y ⊗ x))
    (sum_q_one xs ys q j (le_of_suc-le-suc l) (suc_inj e) (λ i b n. h (suc i) (suc-le-suc b) (λ z. n (suc_inj z))))
    ∙ add_0_l _

column_monic : (xs : List ℕ) (x : ℕ) → 0 < length xs → (t : List ℕ) × (column xs x ≡ 1 ∷ t)
unfolding column locator_of prefixes
column_monic xs x h = go (length xs) h (roots_monic [] xs)
  where
    go : (n : ℕ) → 0 < n → (u : List ℕ) × (roots_times (1 ∷ []) xs ≡ 1 ∷ u) × (length u ≡ 0 + length xs)
        → (t : List ℕ) × (prefixes x 0 (take n (roots_times (1 ∷ []) xs)) ≡ 1 ∷ t)
    go zero h w = absurd (not-suc-le-zero h)
    go (suc n) h (u, e, l) = (
      prefixes x 1 (take n u),
      ap (λ L. prefixes x 0 (take (suc n) L)) e ∙ ap (λ o. o ∷ prefixes x o (take n u)) (ap (λ y. y ⊕ 1) (mul_0_l x) ∙ add_0_l 1),
    )

module _ (xs : List ℕ) (bx : Bytes xs) (p : Positive xs) (d : Distinct xs) (j : ℕ) (hj : j < length xs) where
  bytes_loc : Bytes (locator_of xs)
  unfolding locator_of
  bytes_loc = bytes-roots (1 ∷ []) xs (lit< tt, tt)

  bytes-column : Bytes (column xs (get_or xs j 0))
  unfolding column
  bytes-column = bytes-prefixes (get_or xs j 0) 0 (take (length xs) (locator_of xs)) (bytes_take (length xs) (locator_of xs) bytes_loc)

  pub length-column : length (column xs (get_or xs j 0)) ≡ length xs
  unfolding column
  length-column =
      length-prefixes (get_or xs j 0) 0 (take (length xs) (locator_of xs))
      ∙ length-take-le (length xs) (locator_of xs) (omega (arith, length-locator_of xs))

  others : (i : ℕ) → i < length xs → (i ≡ j → ⊥) → value (get_or xs i 0) (column xs (get_or xs j 0)) ≡ 0
  unfolding column locator_of
  others i h n =
      divide_zero (get_or xs j 0) (get_or xs i 0) (length xs) (locator_of xs) (length-locator_of xs) bytes_loc (bytes_at_lem xs j bx) (bytes_at_lem xs i bx)
      (distinct_at xs i j d h hj n) (roots_root (1 ∷ []) xs j hj) (roots_root (1 ∷ []) xs i h)

  not-zero : value (get_or xs j 0) (column xs (get_or xs j 0)) ≡ 0 → ⊥
  not-zero z = go (column_monic xs (get_or xs j 0) (omega arith))
    where
      all : (i : ℕ) → i < length xs → value (get_or xs i 0) (column xs (get_or xs j 0)) ≡ 0
      all i h = pick (ℕ_discrete i j)
        where
          pick : Dec (i ≡ j) → value (get_or xs i 0) (column xs (get_or xs j 0)) ≡ 0
          pick (yes e) = subst (λ n. value (get_or xs n 0) (column xs (get_or xs j 0)) ≡ 0) (sym e) z
          pick (no e) = others i h e

      go : (t : List ℕ) × (column xs (get_or xs j 0) ≡ 1 ∷ t) → ⊥
      go (t, e) =
          monic_roots xs t bx d (subst (λ l. Bytes l) e bytes-column).1 (omega (arith, length-column, ap length e))
          (subst (λ l. Vanish l xs) e (vanish_of (column xs (get_or xs j 0)) xs all))

  scale_pos : 0 < get_or xs j 0 ⊗ value (get_or xs j 0) (column xs (get_or xs j 0))
  scale_pos =
      mul-pos (get_or xs j 0) (value (get_or xs j 0) (column xs (get_or xs j 0))) (bytes_at_lem xs j bx) (positive_at xs j p hj) (pos _ refl)
      (value_lt (get_or xs j 0) (column xs (get_or xs j 0)) bytes-column)
    where
      pos : (v : ℕ) → value (get_or xs j 0) (column xs (get_or xs j 0)) ≡ v → 0 < value (get_or xs j 0) (column xs (get_or xs j 0))
      pos zero e = absurd (not-zero e)
      pos (suc v) e = omega arith

  -- THE MISSING BYTE j from the syndromes s
  pub solved : (s ys : List ℕ) → length xs ≡ length ys → Bytes ys → ((i : ℕ) → i < length xs → get_or s i 0 ≡ sum_at xs ys (suc i))
      → mix s (column xs (get_or xs j 0)) ⊗ inv (get_or xs j 0 ⊗ value (get_or xs j 0) (column xs (get_or xs j 0))) ≡ get_or ys j 0
  solved s ys e by h =
      ap (λ m. m ⊗ inv (get_or xs j 0 ⊗ value (get_or xs j 0) (column xs (get_or xs j 0))))
      (mix-sum s xs ys (column xs (get_or xs j 0)) bytes-column (λ i l. h i (omega (arith, length-column)))
      ∙ sum_q_one xs ys (column xs (get_or xs j 0)) j hj e others
      ∙ mul_assoc (get_or ys j 0) (get_or xs j 0) (value (get_or xs j 0) (column xs (get_or xs j 0))))
      ∙ mul-div (get_or ys j 0) (get_or xs j 0 ⊗ value (get_or xs j 0) (column xs (get_or xs j 0))) (bytes_at_lem ys j by) scale_pos
      (mul_lt (get_or xs j 0) (value (get_or xs j 0) (column xs (get_or xs j 0))))
