-- Sums of a count, kept in a list, and what they say of chunks. Assumes nothing.
use mathlib.Core.Path.{◌≡◌, sym, ap, ◌∙◌, subst}
use mathlib.Core.Logic.{◌⊎◌, inl, inr}
use mathlib.Core.List.{List}
use mathlib.Core.Bool.{Bool, true, false}
use Prim.Native.Nat.{ℕ, ◌+◌, ◌*◌, ◌/◌, ◌%◌, ◌≤◌, ◌<◌}
use native.Mathlib.Nat.{le_refl, zero-add, eq-or-lt_of_le, mod-lt}
use native.Mathlib.Omega.{arith}
use lib.ListN.{length, get_or, set}
use lib.Seq.{get_or-set_same, get_or-set_other}
use Rattle.base_rules.specs.Bounds.{parity}
use Rattle.base_rules.specs.Tests.{bit}
use Rattle.cut_rules.specs.Missing.{count, losses, gone, missing, suffice}
use Rattle.cut_rules.proofs.LossCounts.{count_le, count_add, upto}
use Rattle.cut_rules.proofs.Sufficing.{suffice_from, suffice_no}

-- among the first i + 1 numbers as many pass a test as among the first i, and number i if it does
pub one_more : (p : ℕ → Bool) (i : ℕ) → count p 0 (i + 1) ≡ count p 0 i + bit (p i)
unfolding count
one_more p i = omega (arith, count_add p 0 i 1, ap (λ (x : ℕ). bit (p x)) (zero-add i))

-- the sums up to i stand in the list
pub record Sums (p : ℕ → Bool) (xs : List ℕ) (i : ℕ) : Type 0 where
  pub at : (k : ℕ) → k ≤ i → get_or xs k 0 ≡ count p 0 k

-- with the count up to i + 1 set in its entry, the sums stand one entry further
pub sums_more : (p : ℕ → Bool) (xs : List ℕ) (i v : ℕ) → Sums p xs i → i + 1 < length xs → v ≡ count p 0 (i + 1) → Sums p (set xs (i + 1) v) (i + 1)
sums_more p xs i v h l e = record { at = λ k (b : k ≤ i + 1). go k (eq-or-lt_of_le b) }
  where
    go : (k : ℕ) → (k ≡ i + 1) ⊎ (k < i + 1) → get_or (set xs (i + 1) v) k 0 ≡ count p 0 k
    go k (inl s) = subst (λ (x : ℕ). get_or (set xs (i + 1) v) x 0 ≡ count p 0 x) (sym s) (get_or-set_same xs (i + 1) v 0 l ∙ e)
    go k (inr s) = get_or-set_other xs (i + 1) k v 0 (λ (q : k ≡ i + 1). omega arith) ∙ h.at k (omega arith)

-- a list that begins with 0 holds the sums up to 0
pub sums_none : (p : ℕ → Bool) (xs : List ℕ) → get_or xs 0 0 ≡ 0 → Sums p xs 0
unfolding count
sums_none p xs e =
    record {
      at = λ k (b : k ≤ 0).
          let z : k ≡ 0 = omega arith in
          subst (λ (x : ℕ). get_or xs x 0 ≡ count p 0 x) (sym z) e;
    }

-- the cells gone before q, read off the sums: those of each whole turn of f, and those of the last turn
abbrev pub reading : List ℕ → ℕ → ℕ → ℕ
reading xs f q = q / f * get_or xs f 0 + get_or xs (q % f) 0

pub read : (lost : ℕ → Bool) (f : ℕ) → 0 < f → (xs : List ℕ) → Sums lost xs f → (q : ℕ) → reading xs f q ≡ count (gone lost f) 0 q
unfolding losses
read lost f some xs h q =
    let all = h.at f (le_refl f) in
    let last = h.at (q % f) (omega (arith, mod-lt q some)) in
    omega (arith, ap (λ (x : ℕ). q / f * x) all, last, upto lost f some q)

-- ---- chunks

module _ (lost : ℕ → Bool) (f n : ℕ) where
  -- what a chunk misses, as the difference of the counts at its ends
  between : (j : ℕ) → count (gone lost f) 0 (j * n + n) ≡ count (gone lost f) 0 (j * n) + missing lost f n j
  unfolding missing
  between j = count_add (gone lost f) 0 (j * n) n ∙ ap (λ (x : ℕ). count (gone lost f) 0 (j * n) + count (gone lost f) x n) (zero-add (j * n))

  -- so the readings at the ends of the chunks tell whether all suffice
  module _ (some : 0 < f) (xs : List ℕ) (sums : Sums lost xs f) where
    -- no more than q cells are gone before q, by the reading of the sums
    pub reading_le : (q : ℕ) → reading xs f q ≤ q
    reading_le q = omega (arith, read lost f some xs sums q, count_le (gone lost f) 0 q)

    -- what chunk j misses is the difference of the readings at its ends
    pub misses : (j : ℕ) → reading xs f (j * n + n) ≡ reading xs f (j * n) + missing lost f n j
    misses j = omega (arith, read lost f some xs sums (j * n + n), read lost f some xs sums (j * n), between j)

    -- where the readings at the ends of no chunk are more than 48 apart, the fragments suffice
    pub suffice_read : (c : ℕ) → ((j : ℕ) → j < c → reading xs f (j * n + n) ≤ parity + reading xs f (j * n)) → true ≡ suffice lost f n c
    suffice_read c h = sym (suffice_from lost f n c (λ j (l : j < c). omega (arith, misses j, h j l)))

    -- where the readings at the ends of one chunk are more than 48 apart, the fragments do not suffice
    pub suffice_fails : (c j : ℕ) → j < c → parity + reading xs f (j * n) < reading xs f (j * n + n) → false ≡ suffice lost f n c
    suffice_fails c j l h = sym (suffice_no lost f n c j l (omega (arith, misses j)))
