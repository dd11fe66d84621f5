-- Lists of 48 lanes, the data in their places, the remainder of a chunk. Assumes nothing.
use mathlib.Core.Path.{◌≡◌, refl, sym, ap, ap₂, ◌∙◌, subst}
use mathlib.Core.List.{List, [], ◌∷◌, ◌++◌, append_assoc}
use Prim.Native.Nat.{ℕ, zero, suc, ◌+◌, ◌-◌, ◌≤◌, ◌<◌}
use native.Mathlib.Nat.{suc_inj, suc-ne-zero, not-suc-le-zero, le_of_suc-le-suc}
use native.Mathlib.Numerals.{add-one}
use native.Mathlib.Decide.{ℕ_discrete}
use native.Mathlib.Omega.{arith}
use lib.ListN.{length, take, drop, get_or, set, replicate, length-append, length-replicate, length-drop, length-set, get_or-replicate}
use lib.Seq.{ext_get_or, get_or-set_same, get_or-set_other, length-take-le}
use Rattle.field_rules.specs.Field.{◌⊕◌, ◌⊗◌, times2, alpha}
use Rattle.field_rules.proofs.Sums.{add_0_l, add_0_r, add_self, add_swap}
use Rattle.field_rules.proofs.Products.{mul_0_l, mul_comm}
use Rattle.field_rules.proofs.Powers.{alpha_lt}
use Rattle.codeword.specs.Code.{horner, value, step, run, parity_of, full}
use Rattle.code_rules.specs.inner.Words.{table}
use Rattle.base_rules.specs.Bytes.{Bytes}
use Rattle.base_rules.specs.Table as tables
use Rattle.base_rules.proofs.Tables as table-laws
use Rattle.codeword.specs.Erasure.{syndromes}
use Rattle.codeword.proofs.Poly.{horner-take, raise, raise_add, raise_0, value-cons, value-nil, value-append, value_zeros}
use Rattle.codeword.proofs.Encoder.{length-parity, length-step, step_at, padded_at, value-run, generator_root}
use Rattle.codeword.proofs.Vandermonde.{get_or-table}
use Rattle.code_rules.specs.inner.Kernel.{laid, sum_of, remainder, Doubles, Multiples, Chain, lane, lane_by, dotted, row_at, roots_list}
use mir.Val.{Fits}
use mir.Syntax.{w8}
use Rattle.code_rules.proofs.LoopLaws.{Upto}
use Rattle.code_rules.proofs.BitLaws.{dot_is}
use Rattle.code_rules.proofs.RowLaws.{past_end, zeros_at}

-- ---- tables

-- a table of n members is n long
pub length-table : (n : ℕ) (f : ℕ → ℕ) → length (table n f) ≡ n
length-table n f = table-laws.length-table f 0 n

-- two rules that agree below n make the same table of n members
pub table_ext : (n : ℕ) (f g : ℕ → ℕ) → ((i : ℕ) → i < n → f i ≡ g i) → table n f ≡ table n g
table_ext n f g h =
    ext_get_or 0 (table n f) (table n g) (length-table n f ∙ sym (length-table n g))
    (λ i l. let b : i < n = omega (arith, length-table n f) in get_or-table n f i b ∙ h i b ∙ sym (get_or-table n g i b))

-- ---- the data in 208 places

-- behind the zero in front, data byte i stands at place i + 1, and 0 where there is no such byte
pub laid_at : (d : List ℕ) (i : ℕ) → get_or (laid d) (i + 1) 0 ≡ get_or d i 0
unfolding laid
laid_at d i = ap (λ n. get_or (laid d) n 0) (add-one i) ∙ padded_at d (207 - length d) i

-- at most 207 data bytes take 208 places
pub length_laid : (d : List ℕ) → length d ≤ 207 → length (laid d) ≡ 208
unfolding laid
length_laid d h = omega (arith, length-append d (replicate (207 - length d) 0), length-replicate {A = ℕ} (207 - length d) 0)

-- of 208 zeros the first is right already: it is the zero in front of the data
pub laid_start : (d : List ℕ) → Upto (laid d) (replicate 208 0) (0 + 1) (replicate 208 0)
unfolding laid
laid_start d = record { size = refl; made = λ j h. go j h; left = λ j h. refl }
  where
    go : (j : ℕ) → j < 0 + 1 → get_or {A = ℕ} (replicate 208 0) j 0 ≡ get_or (laid d) j 0
    go zero h = refl
    go (suc j) h = absurd (not-suc-le-zero (le_of_suc-le-suc h))

-- 208 zeros are right at each place behind the data
pub laid_past : (d : List ℕ) (j : ℕ) → length d + 1 ≤ j → get_or {A = ℕ} (replicate 208 0) j 0 ≡ get_or (laid d) j 0
laid_past d j h =
    zeros_at 208 j ∙ sym (ap (λ n. get_or (laid d) n 0) back ∙ laid_at d (j - 1) ∙ past_end d (j - 1) (omega arith))
  where
    back : j ≡ j - 1 + 1
    back = omega arith

step_zeros : step (replicate 48 0) 0 ≡ replicate 48 0
step_zeros =
    ext_get_or 0 (step (replicate 48 0) 0) (replicate 48 0) (length-step (replicate 48 0) 0 l ∙ sym l)
    (λ i h. step_at (replicate 48 0) 0 i l ∙ ap₂ (λ a b. a ⊕ (b ⊕ 0) ⊗ get_or Rattle.codeword.specs.Code.generator i 0) (zeros_at 48 (i + 1))
    (zeros_at 48 0)
    ∙ add_0_l _ ∙ ap (λ a. a ⊗ get_or Rattle.codeword.specs.Code.generator i 0) (add_self 0) ∙ mul_0_l _ ∙ sym (zeros_at 48 i))
  where
    l : length {A = ℕ} (replicate 48 0) ≡ 48
    l = length-replicate {A = ℕ} 48 0

-- the register, run from zeros over the data in their places, ends with their parity
pub run_laid : (d : List ℕ) → run (replicate 48 0) (laid d) ≡ parity_of d
unfolding run laid parity_of
run_laid d = ap (λ s. run s (d ++ replicate (207 - length d) 0)) step_zeros

-- ---- sums of lists

-- member i of the sum of two lists of one length is the sum of their members i
pub sum_of_at : (a b : List ℕ) (i : ℕ) → length a ≡ length b → get_or (sum_of a b) i 0 ≡ get_or a i 0 ⊕ get_or b i 0
unfolding sum_of
sum_of_at [] [] i e = sym (add_self 0)
sum_of_at [] (y ∷ b) i e = absurd (suc-ne-zero (length b) (sym e))
sum_of_at (x ∷ a) [] i e = absurd (suc-ne-zero (length a) e)
sum_of_at (x ∷ a) (y ∷ b) zero e = refl
sum_of_at (x ∷ a) (y ∷ b) (suc i) e = sum_of_at a b i (suc_inj e)

-- the sum of two lists of one length has that length
pub length-sum_of : (a b : List ℕ) → length a ≡ length b → length (sum_of a b) ≡ length a
unfolding sum_of
length-sum_of [] b e = refl
length-sum_of (x ∷ a) [] e = sym e
length-sum_of (x ∷ a) (y ∷ b) e = ap suc (length-sum_of a b (suc_inj e))

value-sum_of : (x : ℕ) (a b : List ℕ) → length a ≡ length b → value x (sum_of a b) ≡ value x a ⊕ value x b
unfolding sum_of
value-sum_of x [] [] e = value-nil x ∙ sym (ap₂ ◌⊕◌ (value-nil x) (value-nil x) ∙ add_self 0)
value-sum_of x [] (c ∷ b) e = absurd (suc-ne-zero (length b) (sym e))
value-sum_of x (c ∷ a) [] e = absurd (suc-ne-zero (length a) e)
value-sum_of x (c ∷ a) (d ∷ b) e =
    value-cons x (c ⊕ d) (sum_of a b)
    ∙ ap₂ ◌⊕◌
    (ap (λ n. raise x n (c ⊕ d)) (length-sum_of a b (suc_inj e)) ∙ raise_add x (length a) c d
    ∙ ap (λ n. raise x (length a) c ⊕ raise x n d) (suc_inj e))
    (value-sum_of x a b (suc_inj e))
    ∙ add_swap (raise x (length a) c) (raise x (length b) d) (value x a) (value x b)
    ∙ sym (ap₂ ◌⊕◌ (value-cons x c a) (value-cons x d b))

-- ---- the remainder of a chunk has the chunk's values at the roots

module _ (k : ℕ) (c : List ℕ) (h : k ≤ 207) (e : length c ≡ k + 48) where
  -- behind the k data bytes of a chunk stand 48 bytes
  pub drop-size : length (drop k c) ≡ 48
  drop-size = omega (arith, length-drop k c)

  -- at each of the 48 roots, the remainder of a chunk has the value of the chunk in its 255 places
  pub remainder-value : (j : ℕ) → j < 48 → value (alpha (suc j)) (remainder k c) ≡ value (alpha (suc j)) (full 0 k c)
  unfolding remainder full parity_of value
  remainder-value j l =
      value-sum_of (alpha (suc j)) (parity_of (take k c)) (drop k c) (length-parity (take k c) ∙ sym drop-size)
      ∙ ap (λ n. value (alpha (suc j)) (run (replicate 48 0) (take k c ++ replicate (207 - n) 0)) ⊕ value (alpha (suc j)) (drop k c))
      (length-take-le k c (omega arith))
      ∙ ap (λ y. y ⊕ value (alpha (suc j)) (drop k c))
      (value-run (alpha (suc j)) (alpha_lt (suc j)) (generator_root j l) (replicate 48 0) (take k c ++ replicate (207 - k) 0) 0
      (length-replicate {A = ℕ} 48 0)
      (value_zeros (alpha (suc j)) 48 ∙ sym (raise_0 (alpha (suc j)) 48)))
      ∙ sym (ap (value (alpha (suc j))) (sym (append_assoc (take k c) (replicate (207 - k) 0) (drop k c)))
      ∙ value-append (alpha (suc j)) (take k c ++ replicate (207 - k) 0) (drop k c)
      ∙ ap (λ n. raise (alpha (suc j)) n (value (alpha (suc j)) (take k c ++ replicate (207 - k) 0)) ⊕ value (alpha (suc j)) (drop k c)) drop-size)

  -- THE REMAINDER has the chunk's syndromes
  pub remainder-syndromes : syndromes (remainder k c) ≡ syndromes (full 0 k c)
  unfolding syndromes
  remainder-syndromes = table_ext 48 _ _ (λ j l. remainder-value j l)

-- ---- lanes

chain_at : (k : List ℕ) (m : ℕ) → Doubles k → m < 48
    → Chain (get_or k m 0) (get_or k (m + 48) 0) (get_or k (m + 96) 0) (get_or k (m + 144) 0) (get_or k (m + 192) 0) (get_or k (m + 240) 0)
    (get_or k (m + 288) 0) (get_or k (m + 336) 0)
unfolding Doubles
chain_at k m d h =
    record {
      c1 = d m (omega arith);
      c2 = next 48 96 refl (omega arith);
      c3 = next 96 144 refl (omega arith);
      c4 = next 144 192 refl (omega arith);
      c5 = next 192 240 refl (omega arith);
      c6 = next 240 288 refl (omega arith);
      c7 = next 288 336 refl (omega arith);
    }
  where
    next : (a b : ℕ) → a + 48 ≡ b → m + a < 336 → get_or k (m + b) 0 ≡ times2 (get_or k (m + a) 0)
    next a b e l = ap (λ n. get_or k n 0) (omega arith) ∙ d (m + a) l

-- one step of Horner's rule in lane i: what s has there times what xs has, and what r has added
pub lane_at : (xs s r : List ℕ) (i : ℕ) → i < 48 → get_or (lane xs s r) i 0 ≡ get_or s i 0 ⊗ get_or xs i 0 ⊕ get_or r i 0
unfolding lane
lane_at xs s r i h = get_or-table 48 (λ i. get_or s i 0 ⊗ get_or xs i 0 ⊕ get_or r i 0) i h

-- x times each of b, with the multiples of b in k
pub lane-same : (b k : List ℕ) (x : ℕ) → Multiples b k → (j : ℕ) → j < 48 → get_or (lane k (replicate 48 x) (replicate 48 0)) j 0 ≡ x ⊗ get_or b j 0
lane-same b k x m j h =
    lane_at k (replicate 48 x) (replicate 48 0) j h ∙ ap₂ ◌⊕◌ (ap₂ ◌⊗◌ (get_or-replicate 48 j x 0 h) (m.firsts j h)) (zeros_at 48 j) ∙ add_0_r _

-- a step of Horner's rule gives 48 lanes
pub length-lane : (xs s r : List ℕ) → length (lane xs s r) ≡ 48
unfolding lane
length-lane xs s r = length-table 48 (λ i. get_or s i 0 ⊗ get_or xs i 0 ⊕ get_or r i 0)

-- what any eight rows of 48 give in a lane
pub lane_by_at : (k s r : List ℕ) (i : ℕ) → i < 48
    → get_or (lane_by k s r) i 0
    ≡ dotted (get_or s i 0) (get_or k i 0) (row_at k 1 i) (row_at k 2 i) (row_at k 3 i) (row_at k 4 i) (row_at k 5 i) (row_at k 6 i) (row_at k 7 i) ⊕ get_or r i 0
unfolding lane_by
lane_by_at k s r i h = get_or-table 48 _ i h

-- a step by any eight rows gives 48 lanes too
pub length-lane_by : (k s r : List ℕ) → length (lane_by k s r) ≡ 48
unfolding lane_by
length-lane_by k s r = length-table 48 _

-- rows that are each twice the one before give the products
pub lane_by_lem : (k s r : List ℕ) → Doubles k → ((i : ℕ) → i < 48 → get_or k i 0 < 256) → lane_by k s r ≡ lane k s r
unfolding lane_by lane
lane_by_lem k s r d b =
    table_ext 48 _ _
    (λ i h. ap (λ y. y ⊕ get_or r i 0) (dot_is (get_or s i 0) _ _ _ _ _ _ _ _ (b i h) (chain_at k i d h) ∙ mul_comm (get_or k i 0) (get_or s i 0)))

-- a step that gives f i in each lane i gives the table of f
pub lane-table : (xs s r : List ℕ) (f : ℕ → ℕ) → ((i : ℕ) → i < 48 → get_or s i 0 ⊗ get_or xs i 0 ⊕ get_or r i 0 ≡ f i) → lane xs s r ≡ table 48 f
unfolding lane
lane-table xs s r f h = table_ext 48 _ f h

-- one more coefficient in Horner's rule at 48 places
pub lane-horner : (xs k s l : List ℕ) (m : ℕ) → Multiples xs k → s ≡ table 48 (λ i. horner (get_or xs i 0) 0 (take m l)) → m < length l
    → lane k s (replicate 48 (get_or l m 0)) ≡ table 48 (λ i. horner (get_or xs i 0) 0 (take (m + 1) l))
lane-horner xs k s l m q e h =
    lane-table k s (replicate 48 (get_or l m 0)) (λ i. horner (get_or xs i 0) 0 (take (m + 1) l))
    (λ i b. ap₂ ◌⊕◌ (ap₂ ◌⊗◌ (ap (λ t. get_or t i 0) e ∙ get_or-table 48 (λ i. horner (get_or xs i 0) 0 (take m l)) i b) (q.firsts i b))
    (get_or-replicate 48 i (get_or l m 0) 0 b) ∙ sym (horner-take (get_or xs i 0) 0 l m h))

-- before the first coefficient, Horner's rule stands at 0 in all 48 lanes
pub horner_none : (xs l : List ℕ) → replicate 48 0 ≡ table 48 (λ i. horner (get_or xs i 0) 0 (take 0 l))
unfolding tables.table horner
horner_none xs l = refl

-- the list has the roots α^1 to α^48 in this order
pub roots_at : (j : ℕ) → j < 48 → get_or roots_list j 0 ≡ alpha (suc j)
unfolding roots_list
roots_at j h = get_or-table 48 (λ j. alpha (suc j)) j h

-- the list has 48 roots
pub length-roots : length roots_list ≡ 48
unfolding roots_list
length-roots = length-table 48 (λ j. alpha (suc j))

-- ---- the rows of multiples

-- 384 bytes whose first j are those of x
pub record Copied (x : List ℕ) (j : ℕ) (k : List ℕ) : Type 0 where
  pub size : length k ≡ 384
  pub same : (i : ℕ) → i < j → get_or k i 0 ≡ get_or x i 0

-- with the byte of x at j stored at j, one byte more is copied
pub copied_more : (x k : List ℕ) (j : ℕ) → j < 384 → Copied x j k → Copied x (j + 1) (set k j (get_or x j 0))
copied_more x k j h c =
    record { size = length-set k j (get_or x j 0) ∙ c.size; same = λ i l. go i l (ℕ_discrete i j) }
  where
    go : (i : ℕ) → i < j + 1 → Dec (i ≡ j) → get_or (set k j (get_or x j 0)) i 0 ≡ get_or x i 0
    go i l (yes e) = subst (λ n. get_or (set k j (get_or x j 0)) n 0 ≡ get_or x n 0) (sym e) (get_or-set_same k j (get_or x j 0) 0 (omega (arith, c.size)))
    go i l (no e) = get_or-set_other k j i (get_or x j 0) 0 e ∙ c.same i (omega arith)

-- 384 bytes: the first 48 are those of x, and each other below n is α times the one 48 before it
pub record Doubled (x : List ℕ) (n : ℕ) (k : List ℕ) : Type 0 where
  pub size : length k ≡ 384
  pub same : (i : ℕ) → i < 48 → get_or k i 0 ≡ get_or x i 0
  pub twos : (i : ℕ) → i + 48 < n → get_or k (i + 48) 0 ≡ times2 (get_or k i 0)

-- 384 bytes that begin with the 48 of x are made up to place 48: no double stands below it
pub doubled_start : (x k : List ℕ) → length k ≡ 384 → ((i : ℕ) → i < 48 → get_or k i 0 ≡ get_or x i 0) → Doubled x 48 k
doubled_start x k e s = record { size = e; same = s; twos = λ i h. absurd (not-suc-le-zero (le i h)) }
  where
    le : (i : ℕ) → i + 48 < 48 → i < 0
    le i h = omega arith

-- with α times the byte 48 before it stored at n, one byte more is doubled
pub doubled_more : (x k : List ℕ) (n v : ℕ) → 48 ≤ n → n < 384 → Doubled x n k → v ≡ times2 (get_or k (n - 48) 0) → Doubled x (n + 1) (set k n v)
doubled_more x k n v l h d e =
    record {
      size = length-set k n v ∙ d.size;
      same = λ i b. get_or-set_other k n i v 0 (omega arith) ∙ d.same i b;
      twos = λ i b. go i b (ℕ_discrete (i + 48) n);
    }
  where
    go : (i : ℕ) → i + 48 < n + 1 → Dec (i + 48 ≡ n) → get_or (set k n v) (i + 48) 0 ≡ times2 (get_or (set k n v) i 0)
    go i b (yes q) =
        ap (λ m. get_or (set k n v) m 0) q ∙ get_or-set_same k n v 0 (omega (arith, d.size)) ∙ e
        ∙ ap times2 (ap (λ m. get_or k m 0) (omega arith) ∙ sym (get_or-set_other k n i v 0 (omega arith)))
    go i b (no q) = get_or-set_other k n (i + 48) v 0 q ∙ d.twos i (omega arith) ∙ ap times2 (sym (get_or-set_other k n i v 0 (omega arith)))

-- when all 384 bytes are there, they are the eight rows of multiples of x
pub multiples_end : (x k : List ℕ) (n : ℕ) → 384 ≤ n → Doubled x n k → Multiples x k
unfolding Doubles
multiples_end x k n h d = record { firsts = d.same; twos = λ i l. d.twos i (omega arith) }

-- a power of α times α is the next power
pub alpha_next : (j : ℕ) → times2 (alpha j) ≡ alpha (suc j)
unfolding alpha
alpha_next j = refl

-- α with the exponent 0 is 1
pub alpha_0 : 1 ≡ alpha 0
unfolding alpha
alpha_0 = refl

-- ---- what a slice of bytes holds

-- a list that shows less than 256 at each place, past its end too, is a list of bytes
pub bytes_of : (l : List ℕ) → ((i : ℕ) → get_or l i 0 < 256) → Bytes l
bytes_of [] h = tt
bytes_of (x ∷ l) h = (h 0, bytes_of l (λ i. h (suc i)))

-- a number that fits in eight bits is below 256
pub fits_byte : {n : ℕ} → Fits w8 n → n < 256
fits_byte f = omega arith
