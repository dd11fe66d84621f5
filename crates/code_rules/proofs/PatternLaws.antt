-- The loops that make the pattern of the missing places: the locator polynomial, and the columns. Assumes nothing.
use mathlib.Core.Path.{◌≡◌, refl, sym, ap, ap₂, ◌∙◌, subst}
use mathlib.Core.List.{List, [], ◌∷◌, ◌++◌}
use Prim.Native.Nat.{ℕ, zero, suc, ◌+◌, ◌*◌, ◌≤◌, ◌<◌, min}
use native.Mathlib.Nat.{not-suc-le-zero, le_of_suc-le-suc}
use native.Mathlib.Numerals.{add-one}
use native.Mathlib.Decide.{ℕ_discrete, dec_lt}
use native.Mathlib.Omega.{arith}
use lib.ListN.{length, take, get_or, set, replicate, length-set}
use lib.Seq.{take-suc, length-take-le, ext_get_or, get_or-take, get_or-set_same, get_or-set_other}
use Rattle.field_rules.specs.Field.{◌⊕◌, ◌⊗◌, inv}
use Rattle.field_rules.proofs.Sums.{add_0_r}
use Rattle.field_rules.proofs.Products.{mul_0_r}
use Rattle.codeword.specs.Code.{horner, times_root}
use Rattle.base_rules.specs.Table as tables
use Rattle.code_rules.specs.inner.Words.{table}
use Rattle.codeword.proofs.Poly.{length-plus, plus_at}
use Rattle.codeword.proofs.Encoder.{length_snoc, snoc_at}
use Rattle.codeword.proofs.Vandermonde.{get_or-table}
use Rattle.code_rules.specs.inner.Kernel.{Doubles, Multiples, lane_by}
use Rattle.code_rules.specs.inner.Patterns.{roots_times, locator_of, prefixes, Same, root_step, row_of, col_of, Put, Columns}
use Rattle.code_rules.specs.inner.Patterns.{scales_of}
use Rattle.code_rules.specs.inner.Solving.{slopes, PatternMade}
use Rattle.code_rules.proofs.LoopLaws.{Upto}
use Rattle.code_rules.proofs.RowLaws.{past_end, zeros_at}
use Rattle.code_rules.proofs.LaneLaws.{length-table, table_ext, lane-horner, lane-table, lane_by_lem}
use Rattle.code_rules.proofs.DivisionLaws.{length-locator_of}

-- ---- the locator polynomial

-- a coefficient of p times z + x
pub root_step_at : (p : List ℕ) (x m : ℕ) → m < 48 → get_or (root_step p x) (m + 1) 0 ≡ get_or p (m + 1) 0 ⊕ x ⊗ get_or p m 0
unfolding root_step
root_step_at p x m h =
    get_or-table 49 (λ m. get_or p m 0 ⊕ x ⊗ get_or (0 ∷ p) m 0) (m + 1) (omega arith)
    ∙ ap (λ n. get_or p (m + 1) 0 ⊕ x ⊗ get_or (0 ∷ p) n 0) (add-one m)

-- p times z + x has 49 places
pub length-root_step : (p : List ℕ) (x : ℕ) → length (root_step p x) ≡ 49
unfolding root_step
length-root_step p x = length-table 49 (λ m. get_or p m 0 ⊕ x ⊗ get_or (0 ∷ p) m 0)

-- the highest coefficient stays
pub root_step_start : (p : List ℕ) (x : ℕ) → Upto (root_step p x) p (0 + 1) p
unfolding root_step
root_step_start p x = record { size = refl; made = λ j h. go j h; left = λ j h. refl }
  where
    go : (j : ℕ) → j < 0 + 1 → get_or p j 0 ≡ get_or (root_step p x) j 0
    go zero h =
        sym (get_or-table 49 (λ m. get_or p m 0 ⊕ x ⊗ get_or (0 ∷ p) m 0) 0 (omega arith) ∙ ap (λ z. get_or p 0 0 ⊕ z) (mul_0_r x) ∙ add_0_r (get_or p 0 0))
    go (suc j) h = absurd (not-suc-le-zero (le_of_suc-le-suc h))

-- the polynomial 1
pub same_one : Same (set (replicate 49 0) 0 1) (1 ∷ [])
unfolding Same
same_one zero = refl
same_one (suc m) = zeros_at 48 m

same_step : (p l : List ℕ) (x : ℕ) → Same p l → length l ≤ 48 → Same (root_step p x) (times_root x l)
unfolding Same times_root root_step
same_step p l x s h m = go (dec_lt m 49)
  where
    under : (m : ℕ) → get_or (0 ∷ p) m 0 ≡ get_or (0 ∷ l) m 0
    under zero = refl
    under (suc m) = s m

    go : Dec (m < 49) → get_or (root_step p x) m 0 ≡ get_or (times_root x l) m 0
    go (yes b) =
        get_or-table 49 (λ m. get_or p m 0 ⊕ x ⊗ get_or (0 ∷ p) m 0) m b ∙ ap₂ (λ a b. a ⊕ x ⊗ b) (s m ∙ sym (snoc_at l m)) (under m)
        ∙ sym (plus_at x (0 ∷ l) (l ++ (0 ∷ [])) m (sym (length_snoc l 0)))
    go (no b) =
        past_end (root_step p x) m (omega (arith, length-root_step p x))
        ∙ sym (past_end (times_root x l) m (omega (arith, length-plus x (0 ∷ l) (l ++ (0 ∷ [])) (sym (length_snoc l 0)), length_snoc l 0)))

roots-append : (p a b : List ℕ) → roots_times p (a ++ b) ≡ roots_times (roots_times p a) b
unfolding roots_times
roots-append p [] b = refl
roots-append p (x ∷ a) b = roots-append (times_root x p) a b

-- no root yet
pub locator_start : (x p : List ℕ) → Same p (1 ∷ []) → Same p (locator_of (take 0 x))
unfolding locator_of roots_times
locator_start x p s = s

-- one root more
pub locator_more : (x p r : List ℕ) (i : ℕ) → i < 48 → length x ≡ 48 → Same p (locator_of (take i x)) → r ≡ root_step p (get_or x i 0)
    → Same r (locator_of (take (i + 1) x))
unfolding locator_of roots_times
locator_more x p r i h e s q =
    subst (λ l. Same r (roots_times (1 ∷ []) l)) (sym (ap (λ n. take n x) (add-one i) ∙ take-suc x i 0 (omega arith)))
    (subst (λ l. Same r l) (sym (roots-append (1 ∷ []) (take i x) (get_or x i 0 ∷ [])))
    (subst (λ l. Same l (times_root (get_or x i 0) (locator_of (take i x)))) (sym q)
    (same_step p (locator_of (take i x)) (get_or x i 0) s (omega (arith, length-locator_of (take i x), length-take-le i x (omega arith))))))

-- ---- rows

-- the first j places of row m are s's, and the rest is as it was
pub record PutTo (q : List ℕ) (m j : ℕ) (s l : List ℕ) : Type 0 where
  pub size : length l ≡ length q
  pub row : (i : ℕ) → i < j → m * 48 + i < length q → get_or l (m * 48 + i) 0 ≡ get_or s i 0
  pub old : (i : ℕ) → i < m * 48 → get_or l i 0 ≡ get_or q i 0
  pub behind : (i : ℕ) → m * 48 + j ≤ i → get_or l i 0 ≡ get_or q i 0

-- nothing written yet
pub put_start : (q s : List ℕ) (m : ℕ) → PutTo q m 0 s q
put_start q s m = record { size = refl; row = λ i h b. absurd (not-suc-le-zero h); old = λ i h. refl; behind = λ i h. refl }

-- one place more
pub put_more : (q s l : List ℕ) (m j : ℕ) → PutTo q m j s l
    → PutTo q m (j + 1) s (set l (m * 48 + j) (get_or s j 0))
put_more q s l m j p =
    record {
      size = length-set l (m * 48 + j) (get_or s j 0) ∙ p.size;
      row = λ i b r. go i b r (ℕ_discrete i j);
      old = λ i b. get_or-set_other l (m * 48 + j) i (get_or s j 0) 0 (omega arith) ∙ p.old i b;
      behind = λ i b. get_or-set_other l (m * 48 + j) i (get_or s j 0) 0 (omega arith) ∙ p.behind i (omega arith);
    }
  where
    go : (i : ℕ) → i < j + 1 → m * 48 + i < length q → Dec (i ≡ j) → get_or (set l (m * 48 + j) (get_or s j 0)) (m * 48 + i) 0 ≡ get_or s i 0
    go i b r (yes q') =
        subst (λ n. get_or (set l (m * 48 + j) (get_or s j 0)) (m * 48 + n) 0 ≡ get_or s n 0) (sym q')
        (get_or-set_same l (m * 48 + j) (get_or s j 0) 0 (omega (arith, p.size)))
    go i b r (no n) = get_or-set_other l (m * 48 + j) (m * 48 + i) (get_or s j 0) 0 (omega arith) ∙ p.row i (omega arith) r

-- the row is written
pub put_end : (q s l : List ℕ) (m j : ℕ) → j ≡ 48 → PutTo q m j s l → Put q m s l
put_end q s l m j h p =
    record { size = p.size; row = λ i b r. p.row i (omega arith) r; before = p.old; behind = λ i b. p.behind i (omega arith) }

-- a member of a row
pub row_of_at : (q : List ℕ) (m j : ℕ) → j < 48 → get_or (row_of q m) j 0 ≡ get_or q (m * 48 + j) 0
unfolding row_of
row_of_at q m j h = get_or-table 48 (λ j. get_or q (m * 48 + j) 0) j h

-- a row has 48 members
pub length-row_of : (q : List ℕ) (m : ℕ) → length (row_of q m) ≡ 48
unfolding row_of
length-row_of q m = length-table 48 (λ j. get_or q (m * 48 + j) 0)

-- ---- the columns

prefixes_snoc : (x y h v c : ℕ) (l : List ℕ)
    → horner y v (prefixes x h (l ++ (c ∷ []))) ≡ horner y v (prefixes x h l) ⊗ y ⊕ horner x h (l ++ (c ∷ []))
unfolding prefixes horner
prefixes_snoc x y h v c [] = refl
prefixes_snoc x y h v c (d ∷ l) = prefixes_snoc x y (h ⊗ x ⊕ d) (v ⊗ y ⊕ (h ⊗ x ⊕ d)) c l

-- a coefficient of the quotient
pub prefixes_at : (x h : ℕ) (l : List ℕ) (m : ℕ) → m < length l → get_or (prefixes x h l) m 0 ≡ horner x h (take (suc m) l)
unfolding prefixes horner
prefixes_at x h [] m b = absurd (not-suc-le-zero b)
prefixes_at x h (c ∷ l) zero b = refl
prefixes_at x h (c ∷ l) (suc m) b = prefixes_at x (h ⊗ x ⊕ c) l m (le_of_suc-le-suc b)

self : (k : List ℕ) → Doubles k → Multiples k k
self k d = record { firsts = λ i h. refl; twos = d }

-- no row yet
pub columns_start : (k p q : List ℕ) → Columns k p 0 q q (replicate 48 0)
unfolding prefixes horner tables.table
columns_start k p q = record { size = refl; rows = λ m j h l r. absurd (not-suc-le-zero h); rest = λ i h. refl; last = refl }

-- the next row by any rows that double
pub row_next : (k p s r : List ℕ) (m : ℕ) → Doubles k → ((i : ℕ) → i < 48 → get_or k i 0 < 256) → m < length p
    → s ≡ table 48 (λ i. horner (get_or k i 0) 0 (take m p)) → r ≡ lane_by k s (replicate 48 (get_or p m 0))
    → r ≡ table 48 (λ i. horner (get_or k i 0) 0 (take (m + 1) p))
row_next k p s r m d b h e w = w ∙ lane_by_lem k s (replicate 48 (get_or p m 0)) d b ∙ lane-horner k k s p m (self k d) e h

-- one row more
pub columns_more : (k p q₀ q d s q' d' : List ℕ) (m : ℕ) → Doubles k → ((i : ℕ) → i < 48 → get_or k i 0 < 256) → m < length p
    → Columns k p m q₀ q d → s ≡ table 48 (λ i. horner (get_or k i 0) 0 (take (m + 1) p)) → Put q m s q' → d' ≡ lane_by k d s
    → Columns k p (m + 1) q₀ q' d'
columns_more k p q₀ q d s q' d' m two by h c e u v =
    record {
      size = u.size ∙ c.size;
      rows = λ n j b l r. go n j b l r (ℕ_discrete n m);
      rest = λ i b. u.behind i (omega arith) ∙ c.rest i (omega arith);
      last = v ∙ lane_by_lem k d s two by ∙ lane-table k d s _ last;
    }
  where
    split : take (m + 1) p ≡ take m p ++ (get_or p m 0 ∷ [])
    split = ap (λ n. take n p) (add-one m) ∙ take-suc p m 0 h

    s_at : (j : ℕ) → j < 48 → get_or s j 0 ≡ horner (get_or k j 0) 0 (take (m + 1) p)
    s_at j l = ap (λ t. get_or t j 0) e ∙ get_or-table 48 (λ i. horner (get_or k i 0) 0 (take (m + 1) p)) j l

    last : (j : ℕ) → j < 48
        → get_or d j 0 ⊗ get_or k j 0 ⊕ get_or s j 0 ≡ horner (get_or k j 0) 0 (prefixes (get_or k j 0) 0 (take (m + 1) p))
    last j l =
        ap₂ (λ a b. a ⊗ get_or k j 0 ⊕ b) (ap (λ t. get_or t j 0) c.last ∙ get_or-table 48 _ j l) (s_at j l)
        ∙ sym (ap (λ t. horner (get_or k j 0) 0 (prefixes (get_or k j 0) 0 t)) split
        ∙ prefixes_snoc (get_or k j 0) (get_or k j 0) 0 0 (get_or p m 0) (take m p)
        ∙ ap (λ t. horner (get_or k j 0) 0 (prefixes (get_or k j 0) 0 (take m p)) ⊗ get_or k j 0 ⊕ horner (get_or k j 0) 0 t) (sym split))

    go : (n j : ℕ) → n < m + 1 → j < 48 → n * 48 + j < length q₀ → Dec (n ≡ m) → get_or q' (n * 48 + j) 0 ≡ horner (get_or k j 0) 0 (take (n + 1) p)
    go n j b l r (yes w) =
        subst (λ n. get_or q' (n * 48 + j) 0 ≡ horner (get_or k j 0) 0 (take (n + 1) p)) (sym w) (u.row j l (omega (arith, c.size)) ∙ s_at j l)
    go n j b l r (no w) = u.before (n * 48 + j) (omega arith) ∙ c.rows n j (omega arith) l r

-- ---- the pattern

-- a member of a column
pub col_of_at : (q : List ℕ) (e j m : ℕ) → m < e → get_or (col_of q e j) m 0 ≡ get_or q (m * 48 + j) 0
unfolding col_of
col_of_at q e j m h = get_or-table e (λ m. get_or q (m * 48 + j) 0) m h

-- a column has as many members as there are rows
pub length-col_of : (q : List ℕ) (e j : ℕ) → length (col_of q e j) ≡ e
unfolding col_of
length-col_of q e j = length-table e (λ m. get_or q (m * 48 + j) 0)

-- as many coefficients as both have
same-take : (p l : List ℕ) (n : ℕ) → Same p l → n ≤ length p → n ≤ length l → take n p ≡ take n l
unfolding Same
same-take p l n s hp hl =
    ext_get_or 0 (take n p) (take n l) (length-take-le n p hp ∙ sym (length-take-le n l hl))
    (λ i b. let c : i < n = omega (arith, length-take-le n p hp) in get_or-take n p i 0 c ∙ s i ∙ sym (get_or-take n l i 0 c))

-- the factor in a lane
pub scales_at : (x d : List ℕ) (j : ℕ) → j < 48 → get_or (scales_of x d) j 0 ≡ inv (get_or x j 0 ⊗ get_or d j 0)
unfolding scales_of
scales_at x d j h = get_or-table 48 (λ j. inv (get_or x j 0 ⊗ get_or d j 0)) j h

-- ---- the pattern

-- what the columns of the locator polynomial and the multiples of the factors make
pub pattern_made : (x k p q q' d sc : List ℕ) (e n : ℕ) → n ≡ min e 48 → length x ≡ 48 → Multiples x k → length p ≡ 49
    → Same p (locator_of (take n x)) → Columns k p n q q' d → length sc ≡ 384 → Multiples (scales_of x d) sc → PatternMade x e q q' sc
unfolding slopes
pattern_made x k p q q' d sc e n en ex mk ep s c es ms =
    subst (λ n. Same p (locator_of (take n x)) → Columns k p n q q' d → PatternMade x e q q' sc) (sym en) made s c
  where
    made : Same p (locator_of (take (min e 48) x)) → Columns k p (min e 48) q q' d → PatternMade x e q q' sc
    made s c =
        record {
          size = c.size;
          rows = λ m j b l r. c.rows m j b l r ∙ ap₂ (λ a t. horner a 0 t) (mk.firsts j l) (front (m + 1) (omega arith));
          rest = c.rest;
          eight = es;
          scales = subst (λ y. Multiples (scales_of x y) sc) last ms;
        }
      where
        L : List ℕ
        L = locator_of (take (min e 48) x)

        l_l : length L ≡ suc (min e 48)
        l_l = length-locator_of (take (min e 48) x) ∙ ap suc (length-take-le (min e 48) x (omega arith))

        front : (m : ℕ) → m ≤ min e 48 + 1 → take m p ≡ take m L
        front m b = same-take p L m s (omega arith) (omega (arith, l_l))

        last : d ≡ slopes x (min e 48)
        last =
            c.last
            ∙ table_ext 48 _ _ (λ j l. ap₂ (λ a t. horner a 0 (prefixes a 0 t)) (mk.firsts j l) (front (min e 48) (omega arith)))
