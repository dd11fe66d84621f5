-- What the calls that find missing bytes give where the decoder calls them. Assumes nothing.
use mathlib.Core.Path.{◌≡◌, refl, sym, ap, ap₂, ◌∙◌}
use mathlib.Core.Bool.{cond}
use mathlib.Core.List.{List, [], ◌∷◌, ◌++◌}
use Prim.Native.Nat.{ℕ, suc, ◌+◌, ◌*◌, ◌≤◌, ◌<◌, min}
use native.Mathlib.Nat.{min-eq_left}
use native.Mathlib.Numerals.{add-one}
use native.Mathlib.Omega.{arith}
use borrow.Author.Tests.{le-ltb, lt-ltb, eq-eqb, ne_eqb}
use lib.Dec.{eqb}
use lib.ListN.{length, take, get_or, replicate, get_or-replicate}
use lib.Seq.{take-suc, take-take, length-take-le, ext_get_or, get_or-take}
use Rattle.field_rules.specs.Field.{◌⊕◌, ◌⊗◌, pow, inv}
use Rattle.field_rules.proofs.Powers.{alpha_lt, pow_s}
use Rattle.field_rules.proofs.Products.{mul_lt}
use Rattle.codeword.specs.Code.{horner, value}
use Rattle.codeword.specs.Erasure.{marks, count, syndromes}
use Rattle.codeword.proofs.Vandermonde.{get_or-table}
use Rattle.base_rules.specs.Table as tables
use Rattle.code_rules.specs.inner.Words.{table}
use Rattle.code_rules.specs.inner.Kernel.{Doubles, Multiples, lane, lane_by, roots_list}
use Rattle.code_rules.specs.inner.Patterns.{locator_of, prefixes, column, col_of, mixed, Pattern}
use Rattle.code_rules.specs.inner.Sharing.{locs}
use Rattle.code_rules.specs.inner.Solving.{horner_by, syndromes_by, slopes, PatternMade, solved_by, lanes_of, locators_by}
use Rattle.code_rules.proofs.DivisionLaws.{length-locator_of, length-prefixes}
use Rattle.code_rules.proofs.FillLaws.{length-locs}
use Rattle.code_rules.proofs.LaneLaws.{length-table, table_ext, lane-table, lane_by_lem, roots_at}
use Rattle.code_rules.proofs.PatternLaws.{prefixes_at, col_of_at, length-col_of, scales_at}

-- ---- the syndromes

horner-append : (k s a b : List ℕ) → horner_by k s (a ++ b) ≡ horner_by k (horner_by k s a) b
unfolding horner_by
horner-append k s [] b = refl
horner-append k s (c ∷ a) b = horner-append k (lane_by k s (replicate 48 c)) a b

-- no coefficient yet
pub syndromes_start : (k r : List ℕ) → replicate 48 0 ≡ syndromes_by k (take 0 r)
unfolding syndromes_by horner_by
syndromes_start k r = refl

-- one coefficient more
pub syndromes_more : (k r s : List ℕ) (j : ℕ) → j < length r → s ≡ syndromes_by k (take j r)
    → lane_by k s (replicate 48 (get_or r j 0)) ≡ syndromes_by k (take (j + 1) r)
unfolding syndromes_by horner_by
syndromes_more k r s j h e =
    ap (λ t. lane_by k t (replicate 48 (get_or r j 0))) e ∙ sym (horner-append k (replicate 48 0) (take j r) (get_or r j 0 ∷ []))
    ∙ ap (horner_by k (replicate 48 0)) (sym (ap (λ n. take n r) (add-one j) ∙ take-suc r j 0 h))

module _ (xs k : List ℕ) (m : Multiples xs k) (b : (i : ℕ) → i < 48 → get_or xs i 0 < 256) where
  bytes : (i : ℕ) → i < 48 → get_or k i 0 < 256
  bytes i h = omega (arith, m.firsts i h, b i h)

  horner_is : (f : ℕ → ℕ) (l : List ℕ) → horner_by k (table 48 f) l ≡ table 48 (λ i. horner (get_or xs i 0) (f i) l)
  unfolding horner_by horner
  horner_is f [] = refl
  horner_is f (c ∷ l) =
      ap (λ s. horner_by k s l)
      (lane_by_lem k (table 48 f) (replicate 48 c) m.twos bytes
      ∙ lane-table k (table 48 f) (replicate 48 c) (λ i. f i ⊗ get_or xs i 0 ⊕ c)
      (λ i h. ap₂ ◌⊕◌ (ap₂ ◌⊗◌ (get_or-table 48 f i h) (m.firsts i h)) (get_or-replicate 48 i c 0 h)))
      ∙ horner_is (λ i. f i ⊗ get_or xs i 0 ⊕ c) l

zeros : replicate 48 0 ≡ table 48 (λ i. 0)
unfolding tables.table
zeros = refl

-- THE SYNDROMES, where the rows are the multiples of the roots
pub syndromes_by_lem : (k r : List ℕ) → Multiples roots_list k → syndromes_by k r ≡ syndromes r
unfolding syndromes_by syndromes value
syndromes_by_lem k r m =
    ap (λ s. horner_by k s r) zeros ∙ horner_is roots_list k m root_lt (λ i. 0) r
    ∙ table_ext 48 _ _ (λ i h. ap (λ x. horner x 0 r) (roots_at i h))
  where
    root_lt : (i : ℕ) → i < 48 → get_or roots_list i 0 < 256
    root_lt i h = omega (arith, roots_at i h, alpha_lt (suc i))

-- ---- the pattern

inv_lt : (y : ℕ) → inv y < 256
unfolding inv
inv_lt y = omega (arith, pow_s y 253, mul_lt y (pow y 253))

-- THE PATTERN of e locators, where the call is asked for no more than 48
pub pattern_by : (x q q' sc : List ℕ) (e : ℕ) → e ≤ 48 → length x ≡ 48 → length q ≡ 2304 → PatternMade x e q q' sc
    → Pattern (take e x) q' sc
unfolding column value slopes
pattern_by x q q' sc e h ex eq c =
    record {
      few = omega (arith, le);
      cols = λ j b. cols j (omega (arith, le));
      scales = λ j b. scales j (omega (arith, le));
      twos = c.scales.twos;
      bytes = λ j b. omega (arith, c.scales.firsts j b, scales_at x (slopes x (min e 48)) j b, inv_lt (scaled j));
    }
  where
    scaled : ℕ → ℕ
    scaled j = get_or x j 0 ⊗ get_or (slopes x (min e 48)) j 0

    le : length (take e x) ≡ e
    le = length-take-le e x (omega arith)

    L : List ℕ
    L = locator_of (take e x)

    l_l : length L ≡ suc e
    l_l = length-locator_of (take e x) ∙ ap suc le

    all : min e 48 ≡ e
    all = min-eq_left h

    x_at : (j : ℕ) → j < e → get_or x j 0 ≡ get_or (take e x) j 0
    x_at j b = sym (get_or-take e x j 0 b)

    front : take e L ≡ take (length (take e x)) L
    front = ap (λ n. take n L) (sym le)

    lt : length (take (length (take e x)) L) ≡ length (take e x)
    lt = length-take-le (length (take e x)) L (omega (arith, l_l, le))

    lc : (j : ℕ) → length (column (take e x) (get_or (take e x) j 0)) ≡ e
    lc j = length-prefixes (get_or (take e x) j 0) 0 (take (length (take e x)) L) ∙ lt ∙ le

    at : (j m : ℕ) → j < e → m < e → get_or q' (m * 48 + j) 0 ≡ get_or (column (take e x) (get_or (take e x) j 0)) m 0
    at j m b l =
        c.rows m j (omega arith) (omega arith) (omega arith)
        ∙ ap₂ (λ a t. horner a 0 t) (x_at j b)
        (ap₂ (λ n r. take n (locator_of (take r x))) (add-one m) all ∙ sym (take-take (suc m) e L (omega arith)) ∙ ap (take (suc m)) front)
        ∙ sym (prefixes_at (get_or (take e x) j 0) 0 (take (length (take e x)) L) m (omega (arith, lt, le)))

    cols : (j : ℕ) → j < e → col_of q' (length (take e x)) j ≡ column (take e x) (get_or (take e x) j 0)
    cols j b =
        ap (λ n. col_of q' n j) le
        ∙ ext_get_or 0 (col_of q' e j) (column (take e x) (get_or (take e x) j 0)) (length-col_of q' e j ∙ sym (lc j))
        (λ m l. let n : m < e = omega (arith, length-col_of q' e j) in col_of_at q' e j m n ∙ at j m b n)

    scales : (j : ℕ) → j < e
        → get_or sc j 0 ≡ inv (get_or (take e x) j 0 ⊗ horner (get_or (take e x) j 0) 0 (column (take e x) (get_or (take e x) j 0)))
    scales j b =
        c.scales.firsts j (omega arith) ∙ scales_at x (slopes x (min e 48)) j (omega arith)
        ∙ ap₂ (λ a v. inv (a ⊗ v)) (x_at j b)
        (ap (λ n. get_or (slopes x n) j 0) all ∙ get_or-table 48 _ j (omega arith) ∙ ap₂ (λ a t. horner a 0 (prefixes a 0 t)) (x_at j b) front)

-- ---- the missing bytes

-- THE MISSING BYTES, where the call is asked for no more than 48 and the rows double
pub solved_by_lem : (q sc s : List ℕ) (e : ℕ) → e ≤ 48 → Doubles sc → ((i : ℕ) → i < 48 → get_or sc i 0 < 256)
    → solved_by q sc e s ≡ lane sc (mixed s q e) (replicate 48 0)
unfolding solved_by
solved_by_lem q sc s e h d b = lane_by_lem sc _ (replicate 48 0) d b ∙ ap (λ n. lane sc (mixed s q n) (replicate 48 0)) (min-eq_left h)

-- ---- the locators

-- zeros for no size of a chunk
pub locators_long : (k : ℕ) (mask : List ℕ) → 207 < k → locators_by k mask ≡ replicate 48 0
unfolding locators_by
locators_long k mask h = rw (lt-ltb 207 k h)

module _ (k : ℕ) (mask : List ℕ) (h : k ≤ 207) where
  inner : locators_by k mask ≡ cond (eqb (length mask) (k + 48)) (lanes_of (locs k mask)) (replicate 48 0)
  unfolding locators_by
  inner =
      ap (λ b. cond b (replicate 48 0) (cond (eqb (length mask) (k + 48)) (lanes_of (locs k mask)) (replicate 48 0))) (le-ltb 207 k h)

  -- zeros for a mask of another length
  pub locators_misfit : (length mask ≡ k + 48 → ⊥) → locators_by k mask ≡ replicate 48 0
  locators_misfit n = inner ∙ ap (λ b. cond b (lanes_of (locs k mask)) (replicate 48 0)) (ne_eqb (length mask) (k + 48) n)

  -- the first 48 locators for a chunk's mask
  pub locators-first : length mask ≡ k + 48 → locators_by k mask ≡ lanes_of (locs k mask)
  locators-first e = inner ∙ ap (λ b. cond b (lanes_of (locs k mask)) (replicate 48 0)) (eq-eqb (length mask) (k + 48) e)

  -- THE LOCATORS, where no more than 48 places are missing
  pub locators_by_lem : length mask ≡ k + 48 → count (marks mask) ≤ 48 → take (count (marks mask)) (locators_by k mask) ≡ locs k mask
  unfolding lanes_of
  locators_by_lem e few =
      ap (take (count (marks mask))) (locators-first e)
      ∙ ext_get_or 0 (take (count (marks mask)) (lanes_of (locs k mask))) (locs k mask) (size ∙ sym (length-locs k mask))
      (λ i b. let l : i < count (marks mask) = omega (arith, size) in
      get_or-take (count (marks mask)) (lanes_of (locs k mask)) i 0 l ∙ get_or-table 48 (λ j. get_or (locs k mask) j 0) i (omega arith))
    where
      size : length (take (count (marks mask)) (lanes_of (locs k mask))) ≡ count (marks mask)
      size = length-take-le (count (marks mask)) (lanes_of (locs k mask)) (omega (arith, length-table 48 (λ j. get_or (locs k mask) j 0)))
