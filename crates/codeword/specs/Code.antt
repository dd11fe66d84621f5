-- The code of clause 7.3.1 and of document 01, "The code": RS(255,207) over the field of 256 elements, shortened to k data bytes, and its encoder.
use Rattle.std.specs.Prelude.{◌≡◌, List, [], ◌∷◌, ◌++◌, ℕ, zero, suc, ◌+◌, ◌-◌, ◌<◌, length, take, drop, replicate}
use Rattle.base_rules.specs.Bounds.{most_k, parity}
use Rattle.base_rules.specs.Bytes.{Bytes}
use Rattle.field_rules.specs.Field.{◌⊕◌, ◌⊗◌, alpha}

-- ---- the words of the code

-- clause 7.3.1: bytes are coefficients "in order of decreasing power of x"; h is what Horner's rule at x has come to before them
unfoldable pub horner : ℕ → ℕ → List ℕ → ℕ
horner x h [] = h
horner x h (c ∷ cs) = horner x (h ⊗ x ⊕ c) cs

-- clause 7.3.1: the value at x of the polynomial with the coefficients p
unfoldable pub value : ℕ → List ℕ → ℕ
value x p = horner x 0 p

-- clause 7.3.1: "the polynomial that has G(x) as a factor"; document 01: "roots α^1 to α^48"
unfoldable pub Codeword : List ℕ → Type 0
Codeword w = (j : ℕ) → j < parity → value (alpha (suc j)) w ≡ 0

-- clause 7.3.1: the 255 places of a word of k data bytes and 48 parity bytes, "bytes k to 206 (inclusive)" z; document 01: "zeros stand between"
unfoldable pub full {ℓ} : {A : Type ℓ} → A → ℕ → List A → List A
full z k w = take k w ++ (replicate (most_k - k) z ++ drop k w)

-- clause 7.3.1: "an RS(k+p,k) code"; w is one of its words, k data bytes and then 48 parity bytes
pub record Coded (k : ℕ) (w : List ℕ) : Type 0 where
  pub size : length w ≡ k + parity
  pub bytes : Bytes w
  pub word : Codeword (full 0 k w)

-- ---- the code polynomial

-- clause 7.3.1, for sums of polynomials: ss and f times gs, coefficient by coefficient
unfoldable pub plus : ℕ → List ℕ → List ℕ → List ℕ
plus f [] ss = []
plus f (g ∷ gs) [] = []
plus f (g ∷ gs) (s ∷ ss) = s ⊕ f ⊗ g ∷ plus f gs ss

-- clause 7.3.1, one factor of G(x): p times x - r, where - and + are the same
unfoldable pub times_root : ℕ → List ℕ → List ℕ
times_root r p = plus r (0 ∷ p) (p ++ (0 ∷ []))

-- clause 7.3.1: the product of x - α^i for i = 1 to n, from its leading 1 down
unfoldable pub product : ℕ → List ℕ
product zero = 1 ∷ []
product (suc n) = times_root (alpha (suc n)) (product n)

-- clause 7.3.1: G(x), the code polynomial, without its leading 1: the coefficients of x^47 to x^0
unfoldable pub generator : List ℕ
generator = drop 1 (product parity)

-- ---- the encoder: division by G(x)

-- clause 7.3.1, the remainder by G(x) of what came before, in a register of 48 bytes, when the byte b comes next
unfoldable pub step : List ℕ → ℕ → List ℕ
step [] b = []
step (s ∷ ss) b = plus (s ⊕ b) generator (ss ++ (0 ∷ []))

-- clause 7.3.1: the register after the bytes bs, from s on
unfoldable pub run : List ℕ → List ℕ → List ℕ
run s [] = s
run s (b ∷ bs) = run (step s b) bs

-- clause 7.3.1: the check bytes rs_0 to rs_47 of the data bytes d: the register after d and 207 - k zeros
unfoldable pub parity_of : List ℕ → List ℕ
parity_of d = run (replicate parity 0) (d ++ replicate (most_k - length d) 0)

-- clause 7.3.1: the data bytes "followed by the check-bytes"
unfoldable pub encode : List ℕ → List ℕ
encode d = d ++ parity_of d
