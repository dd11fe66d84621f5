-- The table: its rows made one after the other, and read by halves of a byte. Assumes nothing.
use mathlib.Core.Path.{◌≡◌, refl, sym, ap, ap₂, ◌∙◌, subst}
use mathlib.Core.Bool.{cond}
use mathlib.Core.List.{List, [], ◌∷◌}
use Prim.Native.Nat.{ℕ, zero, suc, ◌+◌, ◌-◌, ◌*◌, ◌/◌, ◌%◌, ◌≤◌, ◌<◌}
use native.Mathlib.Nat.{not-suc-le-zero, le_of_suc-le-suc}
use native.Mathlib.Decide.{ℕ_discrete, dec_lt}
use native.Mathlib.Omega.{arith}
use borrow.Author.Tests.{lt-ltb, le-ltb}
use lib.Dec.{ltb}
use lib.ListN.{length, get_or, set, replicate}
use lib.Seq.{get_or-set_same, get_or-set_other, ext_get_or}
use Rattle.field_rules.specs.Field.{◌⊕◌, ◌⊗◌}
use Rattle.field_rules.proofs.Sums.{add_comm}
use Rattle.field_rules.proofs.Products.{mul-add-l, split_add}
use Rattle.code_rules.specs.inner.Kernel.{power, factor_of, entry, Made, RowOf}
use Rattle.code_rules.proofs.LoopLaws.{Upto}

-- before the first byte of the table
pub made_0 : (t : List ℕ) → Made t 0
unfolding Made
made_0 t i h = absurd (not-suc-le-zero h)

-- one byte more
pub made_more : (t : List ℕ) (n v : ℕ) → Made t n → n < length t → v ≡ entry n → Made (set t n v) (n + 1)
unfolding Made
made_more t n v m h e i l = go (ℕ_discrete i n)
  where
    go : Dec (i ≡ n) → get_or (set t n v) i 0 ≡ entry i
    go (yes q) = subst (λ k. get_or (set t n v) k 0 ≡ entry k) (sym q) (get_or-set_same t n v 0 h ∙ e)
    go (no q) = get_or-set_other t n i v 0 q ∙ m i (omega arith)

-- a byte of row r
pub row_at : (row : List ℕ) (r j : ℕ) → RowOf row r → j < 48 → get_or row j 0 ≡ entry (r * 48 + j)
unfolding RowOf
row_at row r j h l = h j l

-- row u of the power n
pub row_is : (n u : ℕ) (row : List ℕ) → n < 8 → u < 32
    → ((j : ℕ) → j < 48 → get_or row j 0 ≡ factor_of u ⊗ get_or (power n) j 0) → RowOf row (n * 32 + u)
unfolding RowOf entry
row_is n u row hn hu e j h =
    e j h ∙ ap₂ ◌⊗◌ (ap factor_of q1) (ap₂ (λ m i. get_or (power m) i 0) q2 q3)
  where
    q1 : u ≡ ((n * 32 + u) * 48 + j) / 48 % 32
    q1 = omega arith

    q2 : n ≡ ((n * 32 + u) * 48 + j) / 1536
    q2 = omega arith

    q3 : j ≡ ((n * 32 + u) * 48 + j) % 48
    q3 = omega arith

module _ (t : List ℕ) (m : Made t 12288) (n j : ℕ) (hn : n < 8) (hj : j < 48) where
  low : (v : ℕ) → v < 16 → get_or t (n * 1536 + v * 48 + j) 0 ≡ v ⊗ get_or (power n) j 0
  unfolding Made entry factor_of
  low v h =
      m (n * 1536 + v * 48 + j) (omega arith)
      ∙ ap₂ ◌⊗◌
      (ap (λ u. cond (ltb u 16) u ((u - 16) * 16)) q1 ∙ ap (λ b. cond b v ((v - 16) * 16)) (lt-ltb v 16 h))
      (ap₂ (λ m i. get_or (power m) i 0) q2 q3)
    where
      q1 : (n * 1536 + v * 48 + j) / 48 % 32 ≡ v
      q1 = omega arith

      q2 : (n * 1536 + v * 48 + j) / 1536 ≡ n
      q2 = omega arith

      q3 : (n * 1536 + v * 48 + j) % 48 ≡ j
      q3 = omega arith

  high : (v : ℕ) → v < 16 → get_or t (n * 1536 + 768 + v * 48 + j) 0 ≡ (v * 16) ⊗ get_or (power n) j 0
  unfolding Made entry factor_of
  high v h =
      m (n * 1536 + 768 + v * 48 + j) (omega arith)
      ∙ ap₂ ◌⊗◌
      (ap (λ u. cond (ltb u 16) u ((u - 16) * 16)) q1 ∙ ap (λ b. cond b (v + 16) ((v + 16 - 16) * 16)) (le-ltb (v + 16) 16 (omega arith)) ∙ q4)
      (ap₂ (λ m i. get_or (power m) i 0) q2 q3)
    where
      q1 : (n * 1536 + 768 + v * 48 + j) / 48 % 32 ≡ v + 16
      q1 = omega arith

      q2 : (n * 1536 + 768 + v * 48 + j) / 1536 ≡ n
      q2 = omega arith

      q3 : (n * 1536 + 768 + v * 48 + j) % 48 ≡ j
      q3 = omega arith

      q4 : (v + 16 - 16) * 16 ≡ v * 16
      q4 = omega arith

  -- the two halves of x
  pub halves : (x : ℕ) → x < 256
      → get_or t (n * 1536 + x % 16 * 48 + j) 0 ⊕ get_or t (n * 1536 + 768 + x / 16 * 48 + j) 0 ≡ x ⊗ get_or (power n) j 0
  halves x h =
      ap₂ ◌⊕◌ (low (x % 16) (omega arith)) (high (x / 16) (omega arith))
      ∙ sym (mul-add-l (x % 16) (x / 16 * 16) (get_or (power n) j 0))
      ∙ ap (λ y. y ⊗ get_or (power n) j 0) (add_comm (x % 16) (x / 16 * 16) ∙ split_add x 4)

-- ---- lists made in place, and zeros

-- a list made as far as i, which ends as it began
pub upto_rest : (goal old : List ℕ) (i : ℕ) (l : List ℕ) → Upto goal old i l → length goal ≡ length old
    → ((j : ℕ) → i ≤ j → j < length old → get_or old j 0 ≡ get_or goal j 0) → l ≡ goal
upto_rest goal old i l u e r = ext_get_or 0 l goal (u.size ∙ sym e) (λ j k. go j k (dec_lt j i))
  where
    go : (j : ℕ) → j < length l → Dec (j < i) → get_or l j 0 ≡ get_or goal j 0
    go j k (yes h) = u.made j h
    go j k (no h) = u.left j (omega arith) ∙ r j (omega arith) (omega (arith, u.size))

-- past the end of a list 0 is read
pub past_end : (l : List ℕ) (i : ℕ) → length l ≤ i → get_or l i 0 ≡ 0
past_end [] i h = refl
past_end (x ∷ l) zero h = absurd (not-suc-le-zero h)
past_end (x ∷ l) (suc i) h = past_end l i (le_of_suc-le-suc h)

-- in a list of zeros too
pub zeros_at : (n i : ℕ) → get_or {A = ℕ} (replicate n 0) i 0 ≡ 0
zeros_at zero i = refl
zeros_at (suc n) zero = refl
zeros_at (suc n) (suc i) = zeros_at n i
