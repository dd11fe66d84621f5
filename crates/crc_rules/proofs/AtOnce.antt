-- A byte goes in at once: eight shifts of the register with the byte added to its high half are Annex A's eight bits. Assumes nothing.
use mathlib.Core.Path.{◌≡◌, refl, sym, ap, ap₂, ◌∙◌}
use mathlib.Core.Bool.{cond}
use Prim.Native.Nat.{ℕ, ◌*◌, ◌/◌, ◌%◌, ◌<◌}
use native.Mathlib.Omega.{arith}
use lib.Bits.{bit_xor, xor_zero_r, xor_lt, xor_mod, xor_shr}
use lib.Dec.{eqb}
use Rattle.base_rules.proofs.Xor.{bit_ind, xors, xor_double}
use Rattle.crc_rules.specs.Crc.{polynomial, feed_bit, feed_bits, feed}
use Rattle.crc_rules.specs.inner.Shifts.{shift, shift8, feed_at_once}
use Rattle.crc_rules.proofs.Linear.{parts}

-- the polynomial where x is 1, and nothing where it is 0
added : (low x : ℕ) → x < 2 → cond (eqb x 1) (bit_xor low polynomial) low ≡ bit_xor low (x * polynomial)
added low x h = bit_ind (λ x. cond (eqb x 1) (bit_xor low polynomial) low ≡ bit_xor low (x * polynomial)) (sym (xor_zero_r low)) refl x h

module _ (r d : ℕ) (hr : r < 65536) (hd : d < 2) where
  sum_lt : bit_xor (r / 32768) d < 2
  sum_lt = xor_lt 1 (r / 32768) d (omega arith) hd

  -- one bit of data as a sum
  bit_parts : feed_bit r d ≡ bit_xor (r % 32768 * 2) (bit_xor (r / 32768) d * polynomial)
  unfolding feed_bit
  bit_parts = added (r % 32768 * 2) (bit_xor (r / 32768) d) sum_lt

  -- the register keeps its width
  bit_lt : feed_bit r d < 65536
  bit_lt =
      let h = sum_lt in
      rw bit_parts (xor_lt 16 (r % 32768 * 2) (bit_xor (r / 32768) d * polynomial) (omega arith) (omega arith))

-- of three numbers, the last two may change places
past : (a b c : ℕ) → bit_xor (bit_xor a b) c ≡ bit_xor (bit_xor a c) b
past a b c = simp xors

-- of what is added to the register before a shift, the top bit is the bit of data, and the rest is still to come
one_shift : (r t : ℕ) → r < 65536 → t < 65536 → shift (bit_xor r t) ≡ bit_xor (feed_bit r (t / 32768)) (t % 32768 * 2)
one_shift r t hr ht =
    parts (bit_xor r t) (xor_lt 16 r t hr ht)
    ∙ ap₂ (λ u v. bit_xor (u * 2) (v * polynomial)) (xor_mod r t 15) (xor_shr r t 15)
    ∙ ap (λ u. bit_xor u (bit_xor (r / 32768) (t / 32768) * polynomial)) (xor_double (r % 32768) (t % 32768))
    ∙ past (r % 32768 * 2) (t % 32768 * 2) (bit_xor (r / 32768) (t / 32768) * polynomial)
    ∙ sym (ap (λ u. bit_xor u (t % 32768 * 2)) (bit_parts r (t / 32768) hr (omega arith)))

-- the shifted register x is Annex A's register r with t still to come
record Stands (x r t : ℕ) : Type 0 where
  same : x ≡ bit_xor r t
  wide : r < 65536

-- one shift more is one bit d more, and u is still to come
bit_more : {x r t : ℕ} → Stands x r t → (d u : ℕ) → t < 65536 → t / 32768 ≡ d → t % 32768 * 2 ≡ u → Stands (shift x) (feed_bit r d) u
bit_more {x} {r} {t} s d u h ed eu =
    record {
      same = ap shift s.same ∙ one_shift r t s.wide h ∙ ap₂ (λ d u. bit_xor (feed_bit r d) u) ed eu;
      wide = bit_lt r d s.wide (omega arith);
    }

-- the short cut is Annex A's byte
pub at_once : (r b : ℕ) → r < 65536 → b < 256 → feed r b ≡ feed_at_once r b
unfolding feed feed_bits feed_at_once shift8
at_once r b hr hb =
    let start : Stands (bit_xor r (b * 256)) r (b * 256) = record { same = refl; wide = hr } in
    let bit7 = bit_more start (b / 128 % 2) (b % 128 * 512) (omega arith) (omega arith) (omega arith) in
    let bit6 = bit_more bit7 (b / 64 % 2) (b % 64 * 1024) (omega arith) (omega arith) (omega arith) in
    let bit5 = bit_more bit6 (b / 32 % 2) (b % 32 * 2048) (omega arith) (omega arith) (omega arith) in
    let bit4 = bit_more bit5 (b / 16 % 2) (b % 16 * 4096) (omega arith) (omega arith) (omega arith) in
    let bit3 = bit_more bit4 (b / 8 % 2) (b % 8 * 8192) (omega arith) (omega arith) (omega arith) in
    let bit2 = bit_more bit3 (b / 4 % 2) (b % 4 * 16384) (omega arith) (omega arith) (omega arith) in
    let bit1 = bit_more bit2 (b / 2 % 2) (b % 2 * 32768) (omega arith) (omega arith) (omega arith) in
    let bit0 = bit_more bit1 (b / 1 % 2) 0 (omega arith) (omega arith) (omega arith) in
    let all : feed_at_once r b ≡ bit_xor (feed r b) 0 = bit0.same in
    sym (all ∙ xor_zero_r (feed r b))
