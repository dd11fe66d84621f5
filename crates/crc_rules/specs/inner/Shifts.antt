-- A byte in one step: it meets the high half of the register, and eight shifts follow.
use Rattle.std.specs.Prelude.{cond, ℕ, ◌-◌, ◌*◌, ltb}
use Rattle.std.specs.Int.Bits.{bit_xor}
use Rattle.crc_rules.specs.Crc.{polynomial}

-- one shift of the register without data: a bit that falls out adds the polynomial
unfoldable pub shift : ℕ → ℕ
shift r = cond (ltb r 32768) (r * 2) (bit_xor ((r - 32768) * 2) polynomial)

-- eight shifts
unfoldable pub shift8 : ℕ → ℕ
shift8 r = shift (shift (shift (shift (shift (shift (shift (shift r)))))))

-- eight shifts of the register with the byte added to its high half
unfoldable pub feed_at_once : ℕ → ℕ → ℕ
feed_at_once r b = shift8 (bit_xor r (b * 256))
