-- The shortened code: words of k data bytes and 48 parity bytes, in their 255 places (R3). Assumes nothing.
use mathlib.Core.Path.{◌≡◌, refl, sym, ap, ap₂, ◌∙◌}
use mathlib.Core.Bool.{Bool, true, false}
use mathlib.Core.List.{List, [], ◌∷◌, ◌++◌}
use Prim.Native.Nat.{ℕ, zero, suc, ◌+◌, ◌-◌, ◌≤◌}
use native.Mathlib.Nat.{suc_inj, suc-ne-zero, zero-add}
use native.Mathlib.Omega.{arith}
use lib.ListN.{length, take, drop, replicate, length-append, length-replicate, length-take, length-drop, take-append-drop}
use lib.Seq.{take_at, drop_at, length-take-le}
use Rattle.base_rules.specs.Bounds.{most_k, parity}
use Rattle.base_rules.specs.Bytes.{Bytes}
use Rattle.base_rules.proofs.ByteLaws.{bytes-append, bytes_take, bytes_drop, bytes_zeros}
use Rattle.codeword.specs.Code.{Codeword, full}
use Rattle.codeword.specs.Erasure.{erase, count, locators}
use Rattle.codeword.proofs.Erasure.{length-erase, one_word}
use Rattle.codeword.proofs.Places.{full_inj}

-- ---- masks and words by their parts

-- a word is erased part by part, where the first part of the mask is as long as that of the word
pub erase-append : (a b : List Bool) (u v : List ℕ) → length a ≡ length u → erase (a ++ b) (u ++ v) ≡ erase a u ++ erase b v
unfolding erase
erase-append [] b [] v e = refl
erase-append [] b (c ∷ u) v e = absurd (suc-ne-zero (length u) (sym e))
erase-append (m ∷ a) b [] v e = absurd (suc-ne-zero (length a) e)
erase-append (true ∷ a) b (c ∷ u) v e = ap (λ l. 0 ∷ l) (erase-append a b u v (suc_inj e))
erase-append (false ∷ a) b (c ∷ u) v e = ap (λ l. c ∷ l) (erase-append a b u v (suc_inj e))

-- a mask that marks nothing leaves the word as it is
pub erase_none : (n : ℕ) (l : List ℕ) → erase (replicate n false) l ≡ l
unfolding erase
erase_none zero l = refl
erase_none (suc n) [] = refl
erase_none (suc n) (c ∷ l) = ap (λ t. c ∷ t) (erase_none n l)

-- a mask that marks each place of the word leaves zeros only
pub erase-all : (n : ℕ) (l : List ℕ) → length l ≡ n → erase (replicate n true) l ≡ replicate n 0
unfolding erase
erase-all zero [] e = refl
erase-all zero (x ∷ l) e = absurd (suc-ne-zero (length l) e)
erase-all (suc n) [] e = absurd (suc-ne-zero n (sym e))
erase-all (suc n) (x ∷ l) e = ap (λ t. 0 ∷ t) (erase-all n l (suc_inj e))

-- two masks in a row miss what the one misses and what the other misses
pub count-append : (a b : List Bool) → count (a ++ b) ≡ count a + count b
unfolding count
count-append [] b = sym (zero-add (count b))
count-append (true ∷ a) b = ap suc (count-append a b) ∙ omega arith
count-append (false ∷ a) b = count-append a b

-- a mask that marks nothing misses no byte
pub count_none : (n : ℕ) → count (replicate n false) ≡ 0
unfolding count
count_none zero = refl
count_none (suc n) = count_none n

-- a mask that marks all of n places misses n bytes
pub count-all : (n : ℕ) → count (replicate n true) ≡ n
unfolding count
count-all zero = refl
count-all (suc n) = ap suc (count-all n)

-- there are as many locators as missing bytes
pub length-locators : (ms : List Bool) → length (locators ms) ≡ count ms
unfolding locators count
length-locators [] = refl
length-locators (true ∷ ms) = ap suc (length-locators ms)
length-locators (false ∷ ms) = length-locators ms

-- ---- a word in its 255 places

-- the places between data and parity, which are never missing, add nothing to the count
pub count-full : (k : ℕ) (ms : List Bool) → count (full false k ms) ≡ count ms
unfolding full
count-full k ms =
    simp (count-append, count_none, zero-add) (sym (count-append (take k ms) (drop k ms)) ∙ ap count (take-append-drop k ms))

-- at most 207 data bytes and 48 parity bytes, or the marks of these, have 255 places
pub length-full {ℓ} : {A : Type ℓ} (z : A) (k : ℕ) (w : List A) → k ≤ most_k → length w ≡ k + parity → length (full z k w) ≡ 255
unfolding full
length-full z k w h e = simp (length-append, length-replicate, length-take, length-drop) (omega arith)

-- a word may be erased by its mask before it is put in its 255 places or after
pub erase-full : (k : ℕ) (ms : List Bool) (w : List ℕ) → length ms ≡ length w → k ≤ length w
    → erase (full false k ms) (full 0 k w) ≡ full 0 k (erase ms w)
unfolding full
erase-full k ms w e h =
    erase-append (take k ms) (gap ++ drop k ms) (take k w) (zeros ++ drop k w) heads
    ∙ ap (λ l. head ++ l)
    (erase-append gap (drop k ms) zeros (drop k w) (length-replicate (most_k - k) false ∙ sym (length-replicate {A = ℕ} (most_k - k) 0))
    ∙ ap (λ l. l ++ tail) (erase_none (most_k - k) zeros))
    ∙ sym
    (ap₂ (λ a b. a ++ (zeros ++ b)) (ap (take k) parts ∙ take_at head tail k long) (ap (drop k) parts ∙ drop_at head tail k long))
  where
    gap : List Bool
    gap = replicate (most_k - k) false

    zeros : List ℕ
    zeros = replicate (most_k - k) 0

    head : List ℕ
    head = erase (take k ms) (take k w)

    tail : List ℕ
    tail = erase (drop k ms) (drop k w)

    heads : length (take k ms) ≡ length (take k w)
    heads = length-take-le k ms (omega arith) ∙ sym (length-take-le k w h)

    parts : erase ms w ≡ head ++ tail
    parts =
        ap₂ erase (sym (take-append-drop k ms)) (sym (take-append-drop k w)) ∙ erase-append (take k ms) (drop k ms) (take k w) (drop k w) heads

    long : length head ≡ k
    long = length-erase (take k ms) (take k w) ∙ length-take-le k w h

-- a word of bytes, put in its 255 places, is still bytes
pub bytes-full : (k : ℕ) (w : List ℕ) → Bytes w → Bytes (full 0 k w)
unfolding full
bytes-full k w b =
    bytes-append (take k w) (replicate (most_k - k) 0 ++ drop k w) (bytes_take k w b)
    (bytes-append (replicate (most_k - k) 0) (drop k w) (bytes_zeros (most_k - k)) (bytes_drop k w b))

-- at most one word of the shortened code has the bytes that are there
pub one_chunk : (k : ℕ) (ms : List Bool) (v w : List ℕ) → k ≤ most_k → length v ≡ k + parity → length w ≡ k + parity → length ms ≡ k + parity
    → count ms ≤ parity
    → Bytes v → Bytes w → Codeword (full 0 k v) → Codeword (full 0 k w) → erase ms v ≡ erase ms w → v ≡ w
one_chunk k ms v w h lv lw lm few bv bw cv cw q = full_inj k v w h lv lw whole
  where
    size : length (full false k ms) ≡ 255
    size = length-full false k ms h lm

    whole : full 0 k v ≡ full 0 k w
    whole =
        one_word (full false k ms) (full 0 k v) (full 0 k w) (size ∙ sym (length-full 0 k v h lv)) (size ∙ sym (length-full 0 k w h lw))
        (omega (arith, size))
        (omega (arith, length-locators (full false k ms), count-full k ms)) (bytes-full k v bv) (bytes-full k w bw) cv cw
        (erase-full k ms v (lm ∙ sym lv) (omega arith) ∙ ap (full 0 k) q ∙ sym (erase-full k ms w (lm ∙ sym lw) (omega arith)))
