-- Laws of `table`: its elements, its parts, and filling a buffer by it from the left. Assumes nothing.
use mathlib.Core.Path.{◌≡◌, refl, sym, ap, ap₂, ◌∙◌}
use mathlib.Core.List.{List, [], ◌∷◌, ◌++◌}
use Prim.Native.Nat.{ℕ, zero, suc, ◌+◌, ◌≤◌, ◌<◌}
use native.Mathlib.Nat.{add-zero, zero-add, suc-add, le_of_suc-le-suc, not-suc-le-zero}
use native.Mathlib.Omega.{arith}
use lib.ListN.{length, get_or, set, replicate}
use Rattle.base_rules.specs.Table.{table}
use Rattle.base_rules.specs.Bytes.{splice}
use Rattle.base_rules.proofs.Splice.{splice_none, splice_more, splice-length}

module _ (rule : ℕ → ℕ) where
  -- a table of n elements is n long
  pub length-table : (a n : ℕ) → length (table rule a n) ≡ n
  unfolding table
  length-table a zero = refl
  length-table a (suc n) = ap suc (length-table (suc a) n)

  -- the element at i, within a table that starts at a, is the rule's for a + i
  pub at_table : (a n i : ℕ) → i < n → get_or (table rule a n) i 0 ≡ rule (a + i)
  unfolding table
  at_table a zero i h = absurd (not-suc-le-zero h)
  at_table a (suc n) zero h = ap rule (sym (add-zero a))
  at_table a (suc n) (suc i) h = at_table (suc a) n i (le_of_suc-le-suc h) ∙ ap rule (omega arith)

  -- one behind the other
  pub table-add : (a n m : ℕ) → table rule a (n + m) ≡ table rule a n ++ table rule (a + n) m
  unfolding table
  table-add a zero m = ap₂ (table rule) (sym (add-zero a)) (zero-add m)
  table-add a (suc n) m =
      ap (table rule a) (suc-add n m)
      ∙ ap (λ (l : List ℕ). rule a ∷ l) (table-add (suc a) n m ∙ ap (λ (x : ℕ). table rule (suc a) n ++ table rule x m) (omega arith))

  table_one : (a : ℕ) → table rule a 1 ≡ rule a ∷ []
  unfolding table
  table_one a = refl

  -- a rule that gives v all along
  pub table_same : (a n v : ℕ) → ((i : ℕ) → i < n → rule (a + i) ≡ v) → table rule a n ≡ replicate n v
  unfolding table
  table_same a zero v h = refl
  table_same a (suc n) v h =
      ap₂ (λ (x : ℕ) (l : List ℕ). x ∷ l) (ap rule (sym (add-zero a)) ∙ h 0 (omega arith))
      (table_same (suc a) n v (λ i (l : i < n). ap rule (omega arith) ∙ h (suc i) (omega arith)))

  -- a buffer that is filled by the rule from `at` on: nothing yet,
  pub filled_none : (a : ℕ) (d : List ℕ) (at : ℕ) → d ≡ splice d at (table rule a 0)
  unfolding table
  filled_none a d at = splice_none d at

  -- its length all along,
  pub filled_length : (a : ℕ) (d : List ℕ) (at n : ℕ) {x : List ℕ} → x ≡ splice d at (table rule a n) → at + n ≤ length d → length x ≡ length d
  filled_length a d at n e h =
      ap length e ∙ splice-length d at (table rule a n) (omega (arith, length-table a n))

  -- and one more, stored at p
  pub filled_more : (a : ℕ) (d : List ℕ) (at n : ℕ) {x : List ℕ} {p v : ℕ} → x ≡ splice d at (table rule a n) → p ≡ at + n → v ≡ rule (a + n)
      → at + n < length d → set x p v ≡ splice d at (table rule a (n + 1))
  filled_more a d at n {x} {p} {v} e is-p is-v h =
      let long : p ≡ at + length (table rule a n) = omega (arith, length-table a n) in
      let longer : table rule a n ++ (rule (a + n) ∷ []) ≡ table rule a (n + 1) =
      ap (λ (l : List ℕ). table rule a n ++ l) (sym (table_one (a + n))) ∙ sym (table-add a n 1) in
      ap (λ (l : List ℕ). set l p v) e
      ∙ ap₂ (set (splice d at (table rule a n))) long is-v
      ∙ splice_more d at (table rule a n) (rule (a + n)) (omega (arith, length-table a n))
      ∙ ap (splice d at) longer
