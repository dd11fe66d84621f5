-- The field of 256 elements over x^8 + x^4 + x^3 + x^2 + 1, 11D hex (clause 7.3.1 of TS 102 821; document 01, "The code"): bit i of a
-- byte is the coefficient of x^i. `% 2` in `times2` and `% 256` in `◌⊗◌` only make the laws hold of every number.
use Rattle.std.specs.Prelude.{cond, ℕ, zero, suc, ◌*◌, ◌/◌, ◌%◌, eqb}
use Rattle.std.specs.Int.Bits.{bit_xor}

infixl 68 ◌⊕◌
infixl 72 ◌⊗◌
-- clause 7.3.1: the sum, and the difference, of two elements, coefficient by coefficient
unfoldable pub ◌⊕◌ : ℕ → ℕ → ℕ
◌⊕◌ a b = bit_xor a b

-- clause 7.3.1: what x^8 is in the field, x^4 + x^3 + x^2 + 1: 11D hex without x^8
abbrev pub reduced : ℕ
reduced = 0x1D

-- clause 7.3.1: x times α = 2: doubled, and where x^8 falls out, what it is added
unfoldable pub times2 : ℕ → ℕ
times2 x = x * 2 % 256 ⊕ x / 128 % 2 * reduced

-- clause 7.3.1: a times the n low coefficients of b, the highest first
unfoldable pub mul_bits : ℕ → ℕ → ℕ → ℕ
mul_bits zero a b = 0
mul_bits (suc n) a b = b % 2 * a ⊕ times2 (mul_bits n a (b / 2))

-- clause 7.3.1: the product of two elements
unfoldable pub ◌⊗◌ : ℕ → ℕ → ℕ
◌⊗◌ a b = mul_bits 8 (a % 256) b

-- clause 7.3.1: the power x^n
unfoldable pub pow : ℕ → ℕ → ℕ
pow x zero = 1
pow x (suc n) = x ⊗ pow x n

-- clause 7.3.1: the power α^n
unfoldable pub alpha : ℕ → ℕ
alpha zero = 1
alpha (suc n) = times2 (alpha n)

-- document 01, "The code": the inverse of an element but 0, x^254; of 0 it is 0
unfoldable pub inv : ℕ → ℕ
inv x = pow x 254

-- document 01, "The code": the first of the n numbers from l on whose power of α is a; past them all where none is
unfoldable pub log_from : ℕ → ℕ → ℕ → ℕ
log_from zero l a = l
log_from (suc n) l a = cond (eqb (alpha l) a) l (log_from n (suc l) a)

-- document 01, "The code": the logarithm of an element but 0, the least l below 255 with α^l = a
unfoldable pub log_of : ℕ → ℕ
log_of a = log_from 255 0 a
