-- Annex A: run over data and their CRC as sent, the register is 1D0F, and over no other two bytes, nor over fewer. Assumes nothing.
use mathlib.Core.Path.{◌≡◌, refl, sym, ap, ◌∙◌}
use mathlib.Core.Bool.{Bool, true, false, not}
use mathlib.Core.List.{[], ◌∷◌, ◌++◌}
use Prim.Native.Nat.{ℕ, ◌+◌, ◌-◌, ◌*◌, ◌<◌}
use native.Mathlib.Nat.{mod-eq_of_lt}
use native.Mathlib.Omega.{arith}
use lib.Bits.{bit_xor, bit_and, xor_lt, xor_shifted, xor_add_and, and_mask}
use lib.Dec.{T, eqb}
use Rattle.base_rules.proofs.Every.{at}
use Rattle.base_rules.proofs.Xor.{xor_assoc, xor_cancel}
use Rattle.crc_rules.specs.Crc.{ones, residue, feed_bit, feed_bits, feed, register_of, word_of}
use Rattle.crc_rules.specs.inner.Shifts.{shift, shift8, feed_at_once}
use Rattle.crc_rules.specs.Claims.{ResidueLaw, NoneUnderTwo}
use Rattle.crc_rules.proofs.Linear.{one_to_one, shift8_linear, twice}
use Rattle.crc_rules.proofs.AtOnce.{at_once}
use Rattle.crc_rules.proofs.Over.{shift8_byte, feed_lt, register_append, register_lt}

-- two bytes more are sixteen shifts of the register and the two together
two_bytes : (r a b : ℕ) → r < 65536 → a < 256 → b < 256
    → register_of r (a ∷ b ∷ []) ≡ shift8 (shift8 (bit_xor r (a * 256 + b)))
unfolding register_of feed_at_once
two_bytes r a b hr ha hb =
    let u : bit_xor r (a * 256) < 65536 = xor_lt 16 r (a * 256) hr (omega arith) in
    at_once (feed r a) b (feed_lt r a hr ha) hb ∙ ap (λ x. feed_at_once x b) (at_once r a hr ha)
    ∙ ap shift8
    (ap (bit_xor (shift8 (bit_xor r (a * 256)))) (sym (shift8_byte b hb))
    ∙ sym (shift8_linear.sum (bit_xor r (a * 256)) b u (omega arith))
    ∙ ap shift8 (xor_assoc r (a * 256) b ∙ ap (bit_xor r) (xor_shifted a 8 b hb)))

-- inverted: each bit added to a one
inverted : (r : ℕ) → r < 65536 → bit_xor r ones ≡ ones - r
inverted r h =
    let m : bit_and r ones ≡ r = and_mask r 16 ∙ mod-eq_of_lt h in
    let s : bit_xor r ones + bit_and r ones * 2 ≡ r + ones = xor_add_and r ones in
    omega arith

-- what the register must hold for sixteen shifts to leave 1D0F
all_ones : shift8 (shift8 ones) ≡ residue
unfolding shift8 shift
all_ones = refl

-- shifts are one to one: 1D0F is left only where the register and the two bytes add up to all ones
pub residue_law : ResidueLaw
unfolding word_of
residue_law s a b h ha hb =
    let r : ℕ = register_of ones s in
    let w : ℕ = a * 256 + b in
    let hr : r < 65536 = register_lt s ones h (omega arith) in
    let hw : w < 65536 = omega arith in
    let e : register_of ones (s ++ (a ∷ b ∷ [])) ≡ shift8 (shift8 (bit_xor r w)) =
    register_append s (a ∷ b ∷ []) ones ∙ two_bytes r a b hr ha hb in (
      λ p. sym (xor_cancel r w)
          ∙ ap (bit_xor r)
          (one_to_one (twice shift8_linear) (bit_xor r w) ones (xor_lt 16 r w hr hw) (omega arith) (sym e ∙ p ∙ sym all_ones))
          ∙ inverted r hr,
      λ p. e ∙ ap (λ x. shift8 (shift8 x)) (ap (bit_xor r) (p ∙ sym (inverted r hr)) ∙ xor_cancel r ones) ∙ all_ones,
    )

-- a test whose negation passes is false
failed : (b : Bool) → T (not b) → b ≡ false
failed true t = absurd t
failed false t = refl

-- one byte alone does not leave 1D0F: computed for each byte
one_byte : (b : ℕ) → b < 256 → eqb (feed ones b) residue ≡ false
unfolding feed feed_bits feed_bit
one_byte b h = failed (eqb (feed ones b) residue) (at 256 (λ x. not (eqb (feed ones x) residue)) tt b h)

-- nor does no byte, so nothing too short for a CRC is taken for intact
pub none_under_two : NoneUnderTwo
unfolding register_of
none_under_two [] h l = refl
none_under_two (b ∷ []) h l = one_byte b h.0
none_under_two (a ∷ b ∷ s) h l = absurd (omega arith)
