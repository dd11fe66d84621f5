-- The theorems of the code, R1 to R3 and what goes with them, as they can be held against clause 7.3.1 and document 01. Each is proved in
-- proofs/Proved.antt.
use Rattle.std.specs.Prelude.{◌≡◌, Bool, true, List, [], ◌∷◌, ℕ, suc, ◌+◌, ◌≤◌, ◌<◌, length, get_or, take, replicate}
use Rattle.base_rules.specs.Bounds.{most_k, parity}
use Rattle.base_rules.specs.Bytes.{Bytes}
use Rattle.field_rules.specs.Field.{◌⊕◌, ◌⊗◌, pow, alpha}
use Rattle.codeword.specs.Code.{value, full, Coded, product, parity_of, encode}
use Rattle.codeword.specs.Erasure.{erase, count, mask_of}
use Rattle.codeword.specs.Locators.{Distinct, Positive, sum_at}

-- clause 7.3.1, "in order of decreasing power of x": at every x a byte c before n others adds c x^n, so that `value` evaluates the polynomial
pub record Evaluated : Type 0 where
  pub none : (x : ℕ) → value x [] ≡ 0
  pub first : (x c : ℕ) (w : List ℕ) → c < 256 → value x (c ∷ w) ≡ c ⊗ pow x (length w) ⊕ value x w

-- document 01: "Data bytes are coefficients x^254 downward to x^(255-k), parity x^47 to x^0, and zeros stand between"; place i has x^(254-i)
pub record Laid (k : ℕ) (w : List ℕ) : Type 0 where
  pub places : length (full 0 k w) ≡ 255
  pub data_at : (i : ℕ) → i < k → get_or (full 0 k w) i 0 ≡ get_or w i 0
  pub zero_at : (i : ℕ) → k ≤ i → i < most_k → get_or (full 0 k w) i 0 ≡ 0
  pub parity_at : (i : ℕ) → get_or (full 0 k w) (most_k + i) 0 ≡ get_or w (k + i) 0

-- and that for every k up to 207
abbrev pub Places : Type 0
Places = (k : ℕ) (w : List ℕ) → k ≤ most_k → length w ≡ k + parity → Laid k w

-- clause 7.3.1: G(x), the product of x - α^i for i = 1 to 48, has the roots α^1 to α^48
abbrev pub Roots : Type 0
Roots = (j : ℕ) → j < parity → value (alpha (suc j)) (product parity) ≡ 0

-- R1: data with its parity is a word of the code; the parity is 48 bytes, whatever the data
pub record R1 : Type 0 where
  pub coded : (d : List ℕ) → length d ≤ most_k → Bytes d → Coded (length d) (encode d)
  pub size : (d : List ℕ) → length (parity_of d) ≡ parity
  pub bytes : (d : List ℕ) → Bytes (parity_of d)

-- R2: over any number of distinct locators, none 0, where Σ Y_i X_i^j is 0 for as many consecutive j, from any a on, all Y_i are 0
abbrev pub R2 : Type 0
R2 = (a : ℕ) (xs ys : List ℕ) → length xs ≡ length ys → Bytes xs → Positive xs → Distinct xs → Bytes ys
    → ((j : ℕ) → j < length xs → sum_at xs ys (a + j) ≡ 0) → ys ≡ replicate (length xs) 0

-- R3: at most one word of the code agrees with the bytes that are there, where at most 48 are missing: by a mask,
pub record R3 : Type 0 where
  pub masked : (k : ℕ) (mask : List Bool) (v w : List ℕ) → k ≤ most_k → length mask ≡ k + parity → count mask ≤ parity
      → Coded k v → Coded k w → erase mask v ≡ erase mask w → v ≡ w
  -- and by the positions whose bytes are there
  pub placed : (k : ℕ) (there : ℕ → Bool) (v w : List ℕ) → k ≤ most_k → count (mask_of there 0 (k + parity)) ≤ parity
      → Coded k v → Coded k w → ((i : ℕ) → i < k + parity → there i ≡ true → get_or v i 0 ≡ get_or w i 0) → v ≡ w

-- every word of the code is its first k bytes and their parity
abbrev pub Systematic : Type 0
Systematic = (k : ℕ) (w : List ℕ) → k ≤ most_k → Coded k w → w ≡ encode (take k w)
