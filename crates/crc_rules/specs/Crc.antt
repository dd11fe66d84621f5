-- The CRC of Annex A: x^16 + x^12 + x^5 + 1, register all ones, most significant bit first, sent inverted.
use Rattle.std.specs.Prelude.{cond, List, [], ◌∷◌, ℕ, zero, suc, ◌-◌, ◌*◌, ◌/◌, ◌%◌, ◌^◌, eqb}
use Rattle.std.specs.Int.Bits.{bit_xor}

-- Annex A: x^12 + x^5 + 1, which is added to the register: 1021 hex
abbrev pub polynomial : ℕ
polynomial = 4129

-- Annex A: the register all ones, FFFF hex
abbrev pub ones : ℕ
ones = 65535

-- Annex A: the register after data and their CRC as sent, 1D0F hex
abbrev pub residue : ℕ
residue = 7439

-- Annex A: one bit of data more: the register moves up, and where that bit and the one that falls out add to 1 the polynomial is added
unfoldable pub feed_bit : ℕ → ℕ → ℕ
feed_bit r d = cond (eqb (bit_xor (r / 32768) d) 1) (bit_xor (r % 32768 * 2) polynomial) (r % 32768 * 2)

-- Annex A: the n low bits of a byte, the most significant first
unfoldable pub feed_bits : ℕ → ℕ → ℕ → ℕ
feed_bits zero r b = r
feed_bits (suc n) r b = feed_bits n (feed_bit r (b / 2 ^ n % 2)) b

-- Annex A: one byte more, its eight bits
unfoldable pub feed : ℕ → ℕ → ℕ
feed r b = feed_bits 8 r b

-- Annex A: the register after the bytes of a list
unfoldable pub register_of : ℕ → List ℕ → ℕ
register_of r [] = r
register_of r (b ∷ s) = register_of (feed r b) s

-- Annex A: the CRC as it is sent, the register inverted
unfoldable pub word_of : List ℕ → ℕ
word_of s = ones - register_of ones s
