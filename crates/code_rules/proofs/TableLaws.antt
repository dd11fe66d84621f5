-- What the register computes with any table, by its turns; with the table that is made it is the parity and the remainder. Assumes nothing.
use mathlib.Core.Path.{◌≡◌, refl, sym, ap, ◌∙◌, subst}
use mathlib.Core.List.{List, [], ◌∷◌}
use Prim.Native.Nat.{ℕ, zero, suc, ◌+◌, ◌-◌, ◌*◌, ◌/◌, ◌%◌, ◌≤◌, ◌<◌}
use native.Mathlib.Numerals.{add-one}
use native.Mathlib.Omega.{arith}
use borrow.Author.Tests.{lt-ltb, le-ltb, eq-eqb, ne_eqb}
use lib.ListN.{length, take, drop, get_or, replicate, length-replicate}
use lib.Seq.{ext_get_or, length-take-le}
use Rattle.base_rules.specs.Bounds.{most_k, parity}
use Rattle.base_rules.specs.Bytes.{Bytes}
use Rattle.base_rules.proofs.ByteLaws.{bytes_at_lem, bytes-append, bytes_take, bytes_drop, bytes_zeros}
use Rattle.field_rules.specs.Field.{◌⊕◌, ◌⊗◌, alpha}
use Rattle.field_rules.proofs.Sums.{add_lt}
use Rattle.codeword.specs.Code.{plus, times_root, product, generator, run, parity_of}
use Rattle.codeword.proofs.Poly.{length-plus, plus_at}
use Rattle.codeword.proofs.Encoder.{length_run, bytes-plus, bytes-step, bytes_run}
use Rattle.codeword.proofs.Vandermonde.{get_or-table}
use Rattle.code_rules.specs.inner.Words.{table-size}
use Rattle.code_rules.specs.inner.Kernel.{back, power, factor_of, Made, RowOf, laid, sum_of, remainder, Multiples, lane_by}
use Rattle.code_rules.specs.inner.Register.{byte_by, last_by, eight_by, register_by, parity_by, remainder_by}
use Rattle.code_rules.proofs.RegisterLaws.{length_back, length-power, run_eight, register_start, register_end}
use Rattle.code_rules.proofs.RegisterLaws.{behind, behind_8, eight_start, length_eight, eight_more}
use Rattle.code_rules.proofs.RowLaws.{row_is, halves}
use Rattle.code_rules.proofs.LaneLaws.{length-table, length_laid, run_laid, lane_by_lem, lane-same}

-- ---- the rows as they are made

bytes_product : (n : ℕ) → Bytes (product n)
unfolding product times_root
bytes_product zero = (omega arith, tt)
bytes_product (suc n) = bytes-plus (alpha (suc n)) (0 ∷ product n) _ (bytes-append (product n) (0 ∷ []) (bytes_product n) (omega arith, tt))

bytes-power : (n : ℕ) → Bytes (power n)
unfolding power generator
bytes-power zero = bytes_drop 1 (product 48) (bytes_product 48)
bytes-power (suc n) = bytes-step (power n) 0 (bytes-power n)

-- row u of the power n, by the power's multiples
pub row_by : (n u x : ℕ) (k row : List ℕ) → n < 8 → u < 32 → Multiples (power n) k → x ≡ factor_of u
    → row ≡ lane_by k (replicate 48 x) (replicate 48 0) → RowOf row (n * 32 + u)
row_by n u x k row hn hu m ex er =
    row_is n u row hn hu
    (λ j l. ap (λ r. get_or r j 0) (er ∙ lane_by_lem k (replicate 48 x) (replicate 48 0) m.twos byte)
    ∙ lane-same (power n) k x m j l ∙ ap (λ y. y ⊗ get_or (power n) j 0) ex)
  where
    byte : (i : ℕ) → i < 48 → get_or k i 0 < 256
    byte i h = subst (λ y. y < 256) (sym (m.firsts i h)) (bytes_at_lem (power n) (bytes-power n) i)

-- ---- the turns, with any table

-- what is added in a place
pub byte_by_at : (t : List ℕ) (n x : ℕ) (q : List ℕ) (j : ℕ) → j < 48
    → get_or (byte_by t n x q) j 0 ≡ get_or q j 0 ⊕ (get_or t (n * 1536 + x % 16 * 48 + j) 0 ⊕ get_or t (n * 1536 + 768 + x / 16 * 48 + j) 0)
unfolding byte_by
byte_by_at t n x q j h = get_or-table 48 _ j h

-- the register keeps its 48 places
pub length-byte_by : (t : List ℕ) (n x : ℕ) (q : List ℕ) → length (byte_by t n x q) ≡ 48
unfolding byte_by
length-byte_by t n x q = length-table 48 _

-- before the first of the eight turns
pub last_start : (t p d : List ℕ) (at : ℕ) → back 8 p ≡ last_by t p d at 0
unfolding last_by
last_start t p d at = refl

-- the eight turns keep the register's 48 places
pub length_last : (t p d : List ℕ) (at n : ℕ) (q : List ℕ) → length p ≡ 48 → q ≡ last_by t p d at n → length q ≡ 48
unfolding last_by
length_last t p d at zero q e same = ap length same ∙ length_back 8 p ∙ e
length_last t p d at (suc n) q e same = ap length same ∙ length-byte_by t n _ (last_by t p d at n)

-- one byte more
pub last_more : (t p d : List ℕ) (at n : ℕ)
    → byte_by t n (get_or p (7 - n) 0 ⊕ get_or d (at + (7 - n)) 0) (last_by t p d at n) ≡ last_by t p d at (n + 1)
unfolding last_by
last_more t p d at n = ap (last_by t p d at) (sym (add-one n))

-- after the last of the eight turns
pub last_end : (t p d : List ℕ) (at n : ℕ) → n ≡ 8 → last_by t p d at n ≡ eight_by t p d at
unfolding eight_by
last_end t p d at n e = ap (last_by t p d at) e

-- before the first step
pub steps_start : (t d : List ℕ) → replicate 48 0 ≡ register_by t d 0
unfolding register_by
steps_start t d = refl

-- one step more
pub steps_more : (t d : List ℕ) (i : ℕ) → eight_by t (register_by t d i) d (i * 8) ≡ register_by t d (i + 1)
unfolding register_by
steps_more t d i = ap (register_by t d) (sym (add-one i))

-- all 26 steps over the data in their places
pub steps_end : (t d : List ℕ) → register_by t (laid d) 26 ≡ parity_by t d
unfolding parity_by
steps_end t d = refl

-- ---- the remainder by any table, by the tests at its head

-- more data bytes than a chunk has
pub remainder_long : (t : List ℕ) (k : ℕ) (c : List ℕ) → 207 < k → replicate 48 255 ≡ remainder_by t k c
unfolding remainder_by
remainder_long t k c h = rw (lt-ltb 207 k h)

module _ (t : List ℕ) (k : ℕ) (c : List ℕ) (h : k ≤ 207) where
  -- no chunk of k data bytes
  pub remainder_other : (length c ≡ k + 48 → ⊥) → replicate 48 255 ≡ remainder_by t k c
  unfolding remainder_by
  remainder_other e = rw (le-ltb 207 k h, ne_eqb (length c) (k + 48) e)

  -- a chunk
  pub remainder_some : length c ≡ k + 48 → sum_of (parity_by t (take k c)) (drop k c) ≡ remainder_by t k c
  unfolding remainder_by
  remainder_some e = rw (le-ltb 207 k h, eq-eqb (length c) (k + 48) e)

-- ---- with the table that is made

bytes_laid : (d : List ℕ) → Bytes d → Bytes (laid d)
unfolding laid
bytes_laid d b = (omega arith, bytes-append d (replicate (207 - length d) 0) b (bytes_zeros (207 - length d)))

module _ (t : List ℕ) (m : Made t table-size) where
  -- the two halves' rows are x times the power
  byte_by_lem : (n x : ℕ) (q : List ℕ) → n < 8 → x < 256 → length q ≡ 48 → byte_by t n x q ≡ plus x (power n) q
  byte_by_lem n x q hn hx e =
      ext_get_or 0 (byte_by t n x q) (plus x (power n) q) (length-byte_by t n x q ∙ sym (length-plus x (power n) q same ∙ e))
      (λ j l. let b : j < 48 = omega (arith, length-byte_by t n x q) in
      byte_by_at t n x q j b ∙ ap (λ y. get_or q j 0 ⊕ y) (halves t m n j hn b x hx) ∙ sym (plus_at x (power n) q j same))
    where
      same : length (power n) ≡ length q
      same = length-power n ∙ sym e

  module _ (p d : List ℕ) (at : ℕ) (ep : length p ≡ 48) (ed : length d ≡ 208) (ha : at + 8 ≤ 208) (bp : Bytes p) (bd : Bytes d) where
    last_by_lem : (n : ℕ) → n ≤ 8 → last_by t p d at n ≡ behind p (take 8 (drop at d)) n
    unfolding last_by
    last_by_lem zero h = eight_start p d at 0 ep ed ha (back 8 p) refl
    last_by_lem (suc n) h =
        let e = last_by_lem n (omega arith) in
        let q = last_by t p d at n in
        let x = get_or p (7 - n) 0 ⊕ get_or d (at + (7 - n)) 0 in
        eight_more p d at n ep ed ha q (byte_by t n x q) x (omega arith) e refl
        (byte_by_lem n x q (omega arith) (add_lt (bytes_at_lem p bp (7 - n)) (bytes_at_lem d bd (at + (7 - n)))) (length_eight p d at n ep ed ha q e))
        ∙ ap (behind p (take 8 (drop at d))) (add-one n)

    -- eight bytes at once
    eight_by_lem : eight_by t p d at ≡ run p (take 8 (drop at d))
    unfolding eight_by
    eight_by_lem = last_by_lem 8 (omega arith) ∙ behind_8 p (take 8 (drop at d))

  -- the bytes of i steps
  register_by_lem : (d : List ℕ) (i : ℕ) → length d ≡ 208 → i ≤ 26 → Bytes d → register_by t d i ≡ run (replicate 48 0) (take (i * 8) d)
  unfolding register_by
  register_by_lem d zero e h b = register_start d
  register_by_lem d (suc i) e h b =
      let s = run (replicate 48 0) (take (i * 8) d) in
      ap (λ p. eight_by t p d (i * 8)) (register_by_lem d i e (omega arith) b)
      ∙ eight_by_lem s d (i * 8) (length_run (replicate 48 0) (take (i * 8) d) (length-replicate {A = ℕ} 48 0)) e (omega arith)
      (bytes_run (replicate 48 0) (take (i * 8) d) (bytes_zeros 48)) b
      ∙ run_eight (replicate 48 0) d i
      ∙ ap (λ n. run (replicate 48 0) (take (n * 8) d)) (add-one i)

  -- the parity of the data bytes d
  pub parity_by_lem : (d : List ℕ) → length d ≤ most_k → Bytes d → parity_by t d ≡ parity_of d
  unfolding parity_by
  parity_by_lem d h b =
      register_by_lem (laid d) 26 (length_laid d h) (omega arith) (bytes_laid d b)
      ∙ register_end (replicate 48 0) (laid d) 26 (length_laid d h) (omega arith)
      ∙ run_laid d

  -- the remainder of the chunk c
  pub remainder_by_lem : (k : ℕ) (c : List ℕ) → k ≤ most_k → length c ≡ k + parity → Bytes c → remainder_by t k c ≡ remainder k c
  unfolding remainder
  remainder_by_lem k c h e b =
      let long : length (take k c) ≡ k = length-take-le k c (omega arith) in
      sym (remainder_some t k c h e) ∙ ap (λ p. sum_of p (drop k c)) (parity_by_lem (take k c) (omega arith) (bytes_take k c b))
