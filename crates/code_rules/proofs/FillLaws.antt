-- The missing bytes that are put in are those of the chunk of the code that agrees, if there is one. Assumes nothing.
use mathlib.Core.Path.{◌≡◌, refl, sym, ap, ap₂, ◌∙◌}
use mathlib.Core.Bool.{Bool, true, false}
use mathlib.Core.List.{List, [], ◌∷◌, ◌++◌}
use Prim.Native.Nat.{ℕ, zero, suc, ◌+◌, ◌-◌, ◌≤◌, ◌<◌}
use native.Mathlib.Nat.{suc_inj, suc-ne-zero, not-suc-le-zero}
use native.Mathlib.Omega.{arith}
use native.Mathlib.Decide.{ℕ_discrete}
use lib.ListN.{length, take, drop, get_or, replicate, length-replicate, take-append-drop}
use lib.Seq.{length-take-le, ext_get_or, get_or-take, drop_at}
use Rattle.field_rules.specs.Field.{◌⊕◌, ◌⊗◌, alpha}
use Rattle.field_rules.proofs.Sums.{add_0_r, add_self}
use Rattle.codeword.specs.Code.{value, Codeword, Coded, full, parity_of, encode}
use Rattle.base_rules.specs.Bytes.{Bytes}
use Rattle.codeword.specs.Erasure.{marks, erase, count, fill, locators, syndromes}
use Rattle.codeword.proofs.Erasure.{missing, length-missing, bytes-missing, fill-missing, length-erase, syndromes_right}
use Rattle.codeword.proofs.Erasure.{bytes-locators, positive_locators, distinct_locators}
use Rattle.codeword.proofs.Poly.{value_zeros}
use Rattle.codeword.proofs.Proved.{r3, systematic}
use Rattle.codeword.proofs.Encoder.{length-parity}
use Rattle.codeword.proofs.Chunk.{bytes-full, erase-full, length-full, length-locators, count-full}
use Rattle.codeword.specs.Locators.{sum_at}
use Rattle.codeword.proofs.Vandermonde.{get_or-table}
use Rattle.code_rules.specs.inner.Kernel.{sum_of, remainder, lane}
use Rattle.code_rules.specs.inner.Patterns.{mix, col_of, mixed, Pattern}
use Rattle.code_rules.specs.Fill.{Agrees}
use Rattle.code_rules.specs.inner.Sharing.{locs, Left, Guessed, ZeroTest, Shared}
use Rattle.code_rules.specs.inner.Block.{ChunkTried}
use Rattle.code_rules.proofs.MaskLaws.{length-marks}
use Rattle.codeword.proofs.Masks.{marks-full}
use Rattle.code_rules.proofs.RowLaws.{zeros_at}
use Rattle.code_rules.proofs.LaneLaws.{lane_at, length-lane, remainder-value, remainder-syndromes}
use Rattle.code_rules.proofs.LocatorLaws.{solved}

-- ---- the missing bytes of a chunk in its 255 places

missing-append : (a b : List Bool) (u v : List ℕ) → length a ≡ length u → missing (a ++ b) (u ++ v) ≡ missing a u ++ missing b v
unfolding missing
missing-append [] b [] v e = refl
missing-append [] b (c ∷ u) v e = absurd (suc-ne-zero (length u) (sym e))
missing-append (m ∷ a) b [] v e = absurd (suc-ne-zero (length a) e)
missing-append (true ∷ a) b (c ∷ u) v e = ap (λ l. c ∷ l) (missing-append a b u v (suc_inj e))
missing-append (false ∷ a) b (c ∷ u) v e = missing-append a b u v (suc_inj e)

missing_none : (n : ℕ) (l : List ℕ) → missing (replicate n false) l ≡ []
unfolding missing
missing_none zero l = refl
missing_none (suc n) [] = refl
missing_none (suc n) (c ∷ l) = missing_none n l

missing-full : (k : ℕ) (ms : List Bool) (w : List ℕ) → length ms ≡ length w → k ≤ length w → missing (full false k ms) (full 0 k w) ≡ missing ms w
unfolding full
missing-full k ms w e h =
    missing-append (take k ms) (replicate (207 - k) false ++ drop k ms) (take k w) (replicate (207 - k) 0 ++ drop k w) lk
    ∙ ap (λ l. missing (take k ms) (take k w) ++ l)
    (missing-append (replicate (207 - k) false) (drop k ms) (replicate (207 - k) 0) (drop k w)
    (length-replicate (207 - k) false ∙ sym (length-replicate {A = ℕ} (207 - k) 0))
    ∙ ap (λ l. l ++ missing (drop k ms) (drop k w)) (missing_none (207 - k) (replicate (207 - k) 0)))
    ∙ sym (missing-append (take k ms) (drop k ms) (take k w) (drop k w) lk) ∙ ap₂ missing (take-append-drop k ms) (take-append-drop k w)
  where
    lk : length (take k ms) ≡ length (take k w)
    lk = length-take-le k ms (omega arith) ∙ sym (length-take-le k w h)

-- ---- filled

-- what is put in is erased again
erase-fill : (ms : List Bool) (c vs : List ℕ) → erase ms (fill ms c vs) ≡ erase ms c
unfolding erase fill
erase-fill [] c vs = refl
erase-fill (m ∷ ms) [] vs = refl
erase-fill (true ∷ ms) (x ∷ c) vs = ap (λ l. 0 ∷ l) (erase-fill ms c (drop 1 vs))
erase-fill (false ∷ ms) (x ∷ c) vs = ap (λ l. x ∷ l) (erase-fill ms c vs)

-- as long as before
length-fill : (ms : List Bool) (c vs : List ℕ) → length (fill ms c vs) ≡ length c
unfolding fill
length-fill [] c vs = refl
length-fill (m ∷ ms) [] vs = refl
length-fill (true ∷ ms) (x ∷ c) vs = ap suc (length-fill ms c (drop 1 vs))
length-fill (false ∷ ms) (x ∷ c) vs = ap suc (length-fill ms c vs)

-- twice is as once
pub erase_twice : (ms : List Bool) (c : List ℕ) → erase ms (erase ms c) ≡ erase ms c
unfolding erase
erase_twice [] c = refl
erase_twice (m ∷ ms) [] = refl
erase_twice (true ∷ ms) (x ∷ c) = ap (λ l. 0 ∷ l) (erase_twice ms c)
erase_twice (false ∷ ms) (x ∷ c) = ap (λ l. x ∷ l) (erase_twice ms c)

module _ (k : ℕ) (ms : List Bool) (w q sc s y : List ℕ) (e : ℕ) (h : k ≤ 207) (lw : length w ≡ k + 48) (lm : length ms ≡ k + 48)
    (bw : Bytes w) (cw : Codeword (full 0 k w)) (ee : e ≡ length (locators (full false k ms))) (pt : Pattern (locators (full false k ms)) q sc)
    (es : s ≡ syndromes (remainder k (erase ms w))) (ey : y ≡ lane sc (mixed s q e) (replicate 48 0)) where
  xs : List ℕ
  xs = locators (full false k ms)

  ys : List ℕ
  ys = missing (full false k ms) (full 0 k w)

  lf : length (full false k ms) ≡ 255
  lf = length-full false k ms h lm

  lfw : length (full 0 k w) ≡ 255
  lfw = length-full 0 k w h lw

  size : length xs ≡ length ys
  unfolding xs ys
  size = length-missing (full false k ms) (full 0 k w) (lf ∙ sym lfw)

  synd : (i : ℕ) → i < 48 → get_or s i 0 ≡ sum_at xs ys (suc i)
  unfolding xs ys
  synd i l =
      ap (λ t. get_or t i 0)
      (es ∙ remainder-syndromes k (erase ms w) h (length-erase ms w ∙ lw)
      ∙ ap syndromes (sym (erase-full k ms w (lm ∙ sym lw) (omega arith))))
      ∙ syndromes_right (full false k ms) (full 0 k w) (lf ∙ sym lfw) (bytes-full k w bw) cw i l

  value_at : (j : ℕ) → j < e → get_or y j 0 ≡ get_or ys j 0
  unfolding xs ys mixed
  value_at j l =
      ap (λ t. get_or t j 0) ey ∙ lane_at sc (mixed s q e) (replicate 48 0) j l48
      ∙ ap₂ ◌⊕◌
      (ap₂ ◌⊗◌ (get_or-table 48 (λ j. mix s (col_of q e j)) j l48 ∙ ap (mix s) (ap (λ n. col_of q n j) ee ∙ pt.cols j lx)) (pt.scales j lx))
      (zeros_at 48 j)
      ∙ add_0_r _
      ∙ solved xs (bytes-locators (full false k ms)) (positive_locators (full false k ms))
      (distinct_locators (full false k ms) (omega (arith, lf))) j lx s ys size
      (bytes-missing (full false k ms) (full 0 k w) (bytes-full k w bw)) (λ i b. synd i (omega (arith, pt.few)))
    where
      lx : j < length (locators (full false k ms))
      lx = omega (arith, ee)

      l48 : j < 48
      l48 = omega (arith, ee, pt.few)

  guess_right : take e y ≡ missing ms w
  unfolding xs ys
  guess_right =
      ext_get_or 0 (take e y) ys (long ∙ ee ∙ size) (λ j b. let l : j < e = omega (arith, long) in get_or-take e y j 0 l ∙ value_at j l)
      ∙ missing-full k ms w (lm ∙ sym lw) (omega arith)
    where
      long : length (take e y) ≡ e
      long = length-take-le e y (omega (arith, ap length ey, length-lane sc (mixed s q e) (replicate 48 0), ee, pt.few))

-- ---- the remainder vanishes for the words of the code alone

sum_of_self : (l : List ℕ) → sum_of l l ≡ replicate (length l) 0
unfolding sum_of
sum_of_self [] = refl
sum_of_self (x ∷ l) = ap₂ ◌∷◌ (add_self x) (sum_of_self l)

-- no remainder: a word of the code
word_of_zero : (k : ℕ) (w : List ℕ) → k ≤ 207 → length w ≡ k + 48 → remainder k w ≡ replicate 48 0 → Codeword (full 0 k w)
unfolding Codeword
word_of_zero k w h lw z j l = sym (remainder-value k w h lw j l) ∙ ap (value (alpha (suc j))) z ∙ value_zeros (alpha (suc j)) 48

-- and a word of the code has none
zero_of_word : (k : ℕ) (w : List ℕ) → k ≤ 207 → Coded k w → remainder k w ≡ replicate 48 0
unfolding remainder encode
zero_of_word k w h c =
    ap (sum_of (parity_of (take k w))) rest ∙ sum_of_self (parity_of (take k w)) ∙ ap (λ n. replicate n 0) (length-parity (take k w))
  where
    rest : drop k w ≡ parity_of (take k w)
    rest = ap (drop k) (systematic k w h c) ∙ drop_at (take k w) (parity_of (take k w)) k (length-take-le k w (omega (arith, c.size)))

-- ---- the functions

-- of no place, all is 0
pub zero_start : (r : List ℕ) → (i : ℕ) → i < 0 → get_or r i 0 ≡ 0
zero_start r i h = absurd (not-suc-le-zero h)

-- one place more is 0
pub zero_more : (r : List ℕ) (j : ℕ) → ((i : ℕ) → i < j → get_or r i 0 ≡ 0) → get_or r j 0 ≡ 0 → (i : ℕ) → i < j + 1 → get_or r i 0 ≡ 0
zero_more r j h e i l = go (ℕ_discrete i j)
  where
    go : Dec (i ≡ j) → get_or r i 0 ≡ 0
    go (yes q) = ap (λ n. get_or r n 0) q ∙ e
    go (no q) = h i (omega arith)

-- all 48 are 0
pub zero_end : (r : List ℕ) (j : ℕ) → length r ≡ 48 → 48 ≤ j → ((i : ℕ) → i < j → get_or r i 0 ≡ 0) → r ≡ replicate 48 0
zero_end r j e h z = ext_get_or 0 r (replicate 48 0) (e ∙ sym (length-replicate {A = ℕ} 48 0)) (λ i l. z i (omega arith) ∙ sym (zeros_at 48 i))

-- one is not 0
pub zero-not : (r : List ℕ) (j : ℕ) → (get_or r j 0 ≡ 0 → ⊥) → r ≡ replicate 48 0 → ⊥
zero-not r j n e = n (ap (λ l. get_or l j 0) e ∙ zeros_at 48 j)

-- a locator for each missing place
pub length-locs : (k : ℕ) (mask : List ℕ) → length (locs k mask) ≡ count (marks mask)
unfolding locs
length-locs k mask = length-locators (full false k (marks mask)) ∙ count-full k (marks mask)

-- the locators by the 255 places
pub locs-full : (k : ℕ) (mask m : List ℕ) → m ≡ full 0 k mask → locators (marks m) ≡ locs k mask
unfolding locs
locs-full k mask m e = ap (λ l. locators (marks l)) e ∙ ap locators (marks-full k mask)

-- what is put in is right, if any chunk of the code agrees
pub guessed : {t rk q sc mask c r : List ℕ} {e k : ℕ} (s y after : List ℕ) → Shared t rk q sc mask e k → Left k c r → s ≡ syndromes r
    → y ≡ lane sc (mixed s q e) (replicate 48 0) → after ≡ fill (marks mask) c (take e y) → Guessed k mask c after
unfolding locs
guessed {q = q} {sc = sc} {mask = mask} {c = c} {e = e} {k = k} s y after S lr es ey ea =
    record {
      size = ap length ea ∙ length-fill (marks mask) c (take e y);
      keeps = ap (erase (marks mask)) ea ∙ erase-fill (marks mask) c (take e y);
      right = λ w cw ew.
          ea ∙ ap₂ (fill (marks mask)) (sym ew)
          (guess_right k (marks mask) w q sc s y e S.short cw.size (length-marks mask ∙ S.masked) cw.bytes cw.word
          (S.counted ∙ sym (length-locs k mask)) S.found (es ∙ ap syndromes (lr.rest ∙ ap (remainder k) (sym ew))) ey)
          ∙ fill-missing (marks mask) w;
    }

-- the remainder tells whether the missing bytes are found
pub tried : {k : ℕ} {mask c after r : List ℕ} (b : Bool) → k ≤ 207 → length c ≡ k + 48 → Guessed k mask c after → Left k after r → ZeroTest r b
    → ChunkTried k mask c after b
tried {k} {mask} {c} {after} true h lc g lr z =
    let size : length after ≡ k + 48 = g.size ∙ lc in
    record {
      coded = record { size = size; bytes = lr.bytes; word = word_of_zero k after h size (sym lr.rest ∙ z) };
      keeps = g.keeps;
    }
tried {k} false h lc g lr z =
    record {
      none = λ w cw ew. z (lr.rest ∙ ap (remainder k) (g.right w cw ew) ∙ zero_of_word k w h cw);
      keeps = g.keeps;
    }

-- at most one chunk of the code agrees (R3)
pub one_filling : (k : ℕ) (mask c v w : List ℕ) → k ≤ 207 → length mask ≡ k + 48 → count (marks mask) ≤ 48
    → Agrees k mask c v → Agrees k mask c w → v ≡ w
one_filling k mask c v w h lm few a b =
    r3.masked k (marks mask) v w h (length-marks mask ∙ lm) few a.coded b.coded (a.keeps ∙ sym b.keeps)
