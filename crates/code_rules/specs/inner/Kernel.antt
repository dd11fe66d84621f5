-- The register eight bytes a step, and the table that it reads.
use Rattle.std.specs.Prelude.{◌≡◌, cond, List, [], ◌∷◌, ◌++◌, ℕ, zero, suc, ◌+◌, ◌-◌, ◌*◌, ◌/◌, ◌%◌, ◌<◌, ltb, length, take, drop, get_or, replicate}
use Rattle.base_rules.specs.Bounds.{most_k, parity}
use Rattle.field_rules.specs.Field.{◌⊕◌, ◌⊗◌, times2, alpha}
use Rattle.codeword.specs.Code.{generator, step, parity_of}
use Rattle.code_rules.specs.inner.Words.{table, power_size}

-- one place on, and 0 at the end (clause 7.3.1)
unfoldable pub shift : List ℕ → List ℕ
shift [] = []
shift (s ∷ ss) = ss ++ (0 ∷ [])

-- n places on (clause 7.3.1)
unfoldable pub back : ℕ → List ℕ → List ℕ
back zero s = s
back (suc n) s = shift (back n s)

-- x^(48 + n) modulo the generator (clause 7.3.1)
unfoldable pub power : ℕ → List ℕ
power zero = generator
power (suc n) = step (power n) 0

-- the factor of row u of the 32 of a power: 0 .. 15, then 16 times these (clause 7.3.1)
unfoldable pub factor_of : ℕ → ℕ
factor_of u = cond (ltb u 16) u ((u - 16) * 16)

-- the table's byte i: 8 powers of 32 rows of 48 (clause 7.3.1)
unfoldable pub entry : ℕ → ℕ
entry i = factor_of (i / parity % 32) ⊗ get_or (power (i / power_size)) (i % parity) 0

-- the first n bytes of the table are made (clause 7.3.1)
unfoldable pub Made : List ℕ → ℕ → Type 0
Made t n = (i : ℕ) → i < n → get_or t i 0 ≡ entry i

-- a list is row r of the table (clause 7.3.1)
unfoldable pub RowOf : List ℕ → ℕ → Type 0
RowOf row r = (j : ℕ) → j < parity → get_or row j 0 ≡ entry (r * parity + j)

-- each is twice the one before
pub record Chain (k0 k1 k2 k3 k4 k5 k6 k7 : ℕ) : Type 0 where
  pub c1 : k1 ≡ times2 k0
  pub c2 : k2 ≡ times2 k1
  pub c3 : k3 ≡ times2 k2
  pub c4 : k4 ≡ times2 k3
  pub c5 : k5 ≡ times2 k4
  pub c6 : k6 ≡ times2 k5
  pub c7 : k7 ≡ times2 k6

-- the sum of those of eight numbers whose bit of a is set
unfoldable pub dotted : ℕ → ℕ → ℕ → ℕ → ℕ → ℕ → ℕ → ℕ → ℕ → ℕ
dotted a k0 k1 k2 k3 k4 k5 k6 k7 =
    a / 1 % 2 * k0 ⊕ (a / 2 % 2 * k1 ⊕ (a / 4 % 2 * k2 ⊕ (a / 8 % 2 * k3
    ⊕ (a / 16 % 2 * k4 ⊕ (a / 32 % 2 * k5 ⊕ (a / 64 % 2 * k6 ⊕ a / 128 % 2 * k7))))))

-- the data bytes in 208 places: a zero, the data, the zeros of the shortened code (clause 7.3.1)
unfoldable pub laid : List ℕ → List ℕ
laid d = 0 ∷ (d ++ replicate (most_k - length d) 0)

-- two lists added place by place
unfoldable pub sum_of : List ℕ → List ℕ → List ℕ
sum_of [] bs = []
sum_of (a ∷ l) [] = []
sum_of (a ∷ l) (b ∷ bs) = a ⊕ b ∷ sum_of l bs

-- what the generator leaves of a chunk of k data bytes and 48 parity bytes
unfoldable pub remainder : ℕ → List ℕ → List ℕ
remainder k c = sum_of (parity_of (take k c)) (drop k c)

-- eight rows of 48, each twice the one before
unfoldable pub Doubles : List ℕ → Type 0
Doubles k = (i : ℕ) → i < 7 * parity → get_or k (i + parity) 0 ≡ times2 (get_or k i 0)

-- eight rows of 48 whose first is xs
pub record Multiples (xs k : List ℕ) : Type 0 where
  pub firsts : (i : ℕ) → i < parity → get_or k i 0 ≡ get_or xs i 0
  pub twos : Doubles k

-- one step of Horner's rule in each of 48 lanes
unfoldable pub lane : List ℕ → List ℕ → List ℕ → List ℕ
lane xs s r = table parity (λ i. get_or s i 0 ⊗ get_or xs i 0 ⊕ get_or r i 0)

-- member i of row m, of rows of 48
abbrev pub row_at : List ℕ → ℕ → ℕ → ℕ
row_at k m i = get_or k (i + m * parity) 0

-- the same by any eight rows of 48: in each lane those whose bit of s is set are added, and r
unfoldable pub lane_by : List ℕ → List ℕ → List ℕ → List ℕ
lane_by k s r =
    table parity
    (λ i. dotted (get_or s i 0) (get_or k i 0) (row_at k 1 i) (row_at k 2 i) (row_at k 3 i) (row_at k 4 i) (row_at k 5 i) (row_at k 6 i) (row_at k 7 i)
    ⊕ get_or r i 0)

-- the roots of the code (clause 7.3.1)
unfoldable pub roots_list : List ℕ
roots_list = table parity (λ j. alpha (suc j))
