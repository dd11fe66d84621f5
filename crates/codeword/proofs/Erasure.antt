-- A word of the code, its missing bytes and the locators of their places: at most one word has the bytes that are there. Assumes nothing.
use mathlib.Core.Path.{◌≡◌, refl, sym, ap, ap₂, ◌∙◌}
use mathlib.Core.Bool.{Bool, true, false}
use mathlib.Core.List.{List, [], ◌∷◌}
use Prim.Native.Nat.{ℕ, suc, ◌+◌, ◌≤◌, ◌<◌}
use native.Mathlib.Nat.{suc_inj, suc-ne-zero}
use native.Mathlib.Omega.{arith}
use lib.ListN.{length, get_or}
use Rattle.base_rules.specs.Bounds.{parity}
use Rattle.base_rules.specs.Bytes.{Bytes}
use Rattle.field_rules.specs.Field.{◌⊕◌, ◌⊗◌, pow, alpha}
use Rattle.field_rules.proofs.Sums.{add_assoc, add_0_l, add_0_r, add_left_comm, eq_of_add-zero}
use Rattle.field_rules.proofs.Powers.{alpha_lt, alpha_pos, alpha_inj, pow-alpha}
use Rattle.codeword.specs.Code.{value, Codeword}
use Rattle.codeword.specs.Erasure.{erase, fill, locators, syndromes}
use Rattle.codeword.specs.Locators.{Apart, Distinct, Positive, sum_at}
use Rattle.codeword.proofs.Poly.{raise, raise_0, raise_pow, value-cons}
use Rattle.codeword.proofs.Vandermonde.{unique, get_or-table}

-- ---- what a decoder speaks of

-- the bytes of the word at the missing places
unfoldable pub missing : List Bool → List ℕ → List ℕ
missing [] w = []
missing (m ∷ ms) [] = []
missing (true ∷ ms) (c ∷ w) = c ∷ missing ms w
missing (false ∷ ms) (c ∷ w) = missing ms w

-- ---- the locators

-- each locator of a missing place is a byte
pub bytes-locators : (ms : List Bool) → Bytes (locators ms)
unfolding locators
bytes-locators [] = tt
bytes-locators (true ∷ ms) = (alpha_lt (length ms), bytes-locators ms)
bytes-locators (false ∷ ms) = bytes-locators ms

-- no locator of a missing place is 0
pub positive_locators : (ms : List Bool) → Positive (locators ms)
unfolding locators
positive_locators [] = tt
positive_locators (true ∷ ms) = (alpha_pos (length ms), positive_locators ms)
positive_locators (false ∷ ms) = positive_locators ms

pub apart-locators : (ms : List Bool) (n : ℕ) → length ms ≤ n → n < 255 → Apart (alpha n) (locators ms)
unfolding locators
apart-locators [] n l h = tt
apart-locators (true ∷ ms) n l h =
    (λ e. (let q : length ms ≡ n = alpha_inj (length ms) n (omega arith) h e in omega arith), apart-locators ms n (omega arith) h)
apart-locators (false ∷ ms) n l h = apart-locators ms n (omega arith) h

-- no two missing places of at most 255 have the same locator
pub distinct_locators : (ms : List Bool) → length ms ≤ 255 → Distinct (locators ms)
unfolding locators
distinct_locators [] h = tt
distinct_locators (true ∷ ms) h = (apart-locators ms (length ms) (omega arith) h, distinct_locators ms (omega arith))
distinct_locators (false ∷ ms) h = distinct_locators ms (omega arith)

-- ---- the missing bytes

-- there are as many locators as bytes at the missing places, where mask and word have one length
pub length-missing : (ms : List Bool) (w : List ℕ) → length ms ≡ length w → length (locators ms) ≡ length (missing ms w)
unfolding locators missing
length-missing [] w e = refl
length-missing (m ∷ ms) [] e = absurd (suc-ne-zero (length ms) e)
length-missing (true ∷ ms) (c ∷ w) e = ap suc (length-missing ms w (suc_inj e))
length-missing (false ∷ ms) (c ∷ w) e = length-missing ms w (suc_inj e)

-- what stands at the missing places of a word of bytes is bytes
pub bytes-missing : (ms : List Bool) (w : List ℕ) → Bytes w → Bytes (missing ms w)
unfolding missing
bytes-missing [] w b = tt
bytes-missing (m ∷ ms) [] b = tt
bytes-missing (true ∷ ms) (c ∷ w) b = (b.0, bytes-missing ms w b.1)
bytes-missing (false ∷ ms) (c ∷ w) b = bytes-missing ms w b.1

-- an erased word, filled with the bytes that it misses, is the word again
pub fill-missing : (ms : List Bool) (w : List ℕ) → fill ms (erase ms w) (missing ms w) ≡ w
unfolding fill erase missing
fill-missing [] w = refl
fill-missing (m ∷ ms) [] = refl
fill-missing (true ∷ ms) (c ∷ w) = ap (λ l. c ∷ l) (fill-missing ms w)
fill-missing (false ∷ ms) (c ∷ w) = ap (λ l. c ∷ l) (fill-missing ms w)

-- an erased word is as long as it was
pub length-erase : (ms : List Bool) (w : List ℕ) → length (erase ms w) ≡ length w
unfolding erase
length-erase [] w = refl
length-erase (m ∷ ms) [] = refl
length-erase (true ∷ ms) (c ∷ w) = ap suc (length-erase ms w)
length-erase (false ∷ ms) (c ∷ w) = ap suc (length-erase ms w)

-- the value of a word is that of the word without the missing bytes, and the missing bytes' sum
pub value-erase : (j : ℕ) (ms : List Bool) (w : List ℕ) → length ms ≡ length w → Bytes w
    → value (alpha j) w ≡ value (alpha j) (erase ms w) ⊕ sum_at (locators ms) (missing ms w) j
unfolding erase missing locators sum_at
value-erase j [] w e b = sym (add_0_r (value (alpha j) w))
value-erase j (m ∷ ms) [] e b = absurd (suc-ne-zero (length ms) e)
value-erase j (true ∷ ms) (c ∷ w) e b =
    value-cons (alpha j) c w
    ∙ ap₂ ◌⊕◌
    (raise_pow (alpha j) (length w) c b.0 ∙ ap (λ p. c ⊗ p) (ap (pow (alpha j)) (sym (suc_inj e)) ∙ pow-alpha j (length ms)))
    (value-erase j ms w (suc_inj e) b.1)
    ∙ add_left_comm (c ⊗ pow (alpha (length ms)) j) (value (alpha j) (erase ms w)) (sum_at (locators ms) (missing ms w) j)
    ∙ ap (λ v. v ⊕ (c ⊗ pow (alpha (length ms)) j ⊕ sum_at (locators ms) (missing ms w) j))
    (sym (value-cons (alpha j) 0 (erase ms w) ∙ ap (λ y. y ⊕ value (alpha j) (erase ms w)) (raise_0 (alpha j) (length (erase ms w)))
    ∙ add_0_l (value (alpha j) (erase ms w))))
value-erase j (false ∷ ms) (c ∷ w) e b =
    value-cons (alpha j) c w
    ∙ ap₂ (λ n v. raise (alpha j) n c ⊕ v) (sym (length-erase ms w)) (value-erase j ms w (suc_inj e) b.1)
    ∙ sym (add_assoc (raise (alpha j) (length (erase ms w)) c) (value (alpha j) (erase ms w)) (sum_at (locators ms) (missing ms w) j))
    ∙ ap (λ v. v ⊕ sum_at (locators ms) (missing ms w) j) (sym (value-cons (alpha j) c (erase ms w)))

-- ---- words of the code

module _ (ms : List Bool) (w : List ℕ) (e : length ms ≡ length w) (b : Bytes w) (word : Codeword w) where
  -- the bytes that are there tell the missing bytes' sums at the roots
  pub missing-sum : (j : ℕ) → j < parity → value (alpha (suc j)) (erase ms w) ≡ sum_at (locators ms) (missing ms w) (suc j)
  unfolding Codeword
  missing-sum j l = eq_of_add-zero _ _ (sym (value-erase (suc j) ms w e b) ∙ word j l)

  -- the syndromes of the erased word are the missing bytes' sums at the exponents 1 to 48
  pub syndromes_right : (j : ℕ) → j < parity → get_or (syndromes (erase ms w)) j 0 ≡ sum_at (locators ms) (missing ms w) (suc j)
  unfolding syndromes
  syndromes_right j l = get_or-table parity (λ j. value (alpha (suc j)) (erase ms w)) j l ∙ missing-sum j l

-- at most one word of the code has the bytes that are there
pub one_word : (ms : List Bool) (v w : List ℕ) → length ms ≡ length v → length ms ≡ length w → length ms ≤ 255 → length (locators ms) ≤ parity
    → Bytes v → Bytes w → Codeword v → Codeword w → erase ms v ≡ erase ms w → v ≡ w
one_word ms v w ev ew h few bv bw cv cw q =
    sym (fill-missing ms v) ∙ ap₂ (fill ms) q same ∙ fill-missing ms w
  where
    sums : (j : ℕ) → j < parity → sum_at (locators ms) (missing ms v) (suc j) ≡ sum_at (locators ms) (missing ms w) (suc j)
    sums j l = sym (missing-sum ms v ev bv cv j l) ∙ ap (value (alpha (suc j))) q ∙ missing-sum ms w ew bw cw j l

    from_1 : (j : ℕ) → suc j ≡ 1 + j
    from_1 j = omega arith

    same : missing ms v ≡ missing ms w
    same =
        unique 1 (locators ms) (missing ms v) (missing ms w) (length-missing ms v ev) (length-missing ms w ew) (bytes-locators ms)
        (positive_locators ms)
        (distinct_locators ms h) (bytes-missing ms v bv) (bytes-missing ms w bw) (λ j l. rw (← from_1 j) (sums j (omega arith)))
