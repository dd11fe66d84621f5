-- The table's rule, by one test that is computed at every entry, and what a byte's two halves add. Assumes nothing.
use mathlib.Core.Path.{◌≡◌, sym, ap, ap₂, ◌∙◌}
use mathlib.Core.Bool.{Bool}
use mathlib.Core.List.{List}
use Prim.Native.Nat.{ℕ, ◌+◌, ◌-◌, ◌*◌, ◌/◌, ◌%◌, ◌^◌, ◌<◌}
use native.Mathlib.Omega.{arith}
use lib.Bits.{bit_xor, xor_comm, xor_shifted}
use lib.Dec.{T, eqb, eqb→eq, lit<}
use lib.ListN.{get_or}
use Rattle.base_rules.proofs.Every.{below, at}
use Rattle.crc_rules.specs.inner.Halves.{rounds, Halves}
use Rattle.crc_rules.proofs.Linear.{rounds_linear}

-- the entry for v in half h of byte b is right
abbrev right : List ℕ → ℕ → ℕ → ℕ → Bool
right t b h v = eqb (get_or t (b * 32 + h * 16 + v) 0) (rounds (8 - b) (v * 16 ^ h * 256))

-- so are those of a half, of a byte, and all
abbrev half_right : List ℕ → ℕ → ℕ → Bool
half_right t b h = below 16 (right t b h)

abbrev byte_right : List ℕ → ℕ → Bool
byte_right t b = below 2 (half_right t b)

abbrev pub all_right : List ℕ → Bool
all_right t = below 8 (byte_right t)

-- the rule, from the one test
pub halves : (t : List ℕ) → T (all_right t) → Halves t
halves t e =
    record {
      entry = λ b h v hb hh hv. eqb→eq (get_or t (b * 32 + h * 16 + v) 0) (rounds (8 - b) (v * 16 ^ h * 256))
          (at 16 (right t b h) (at 2 (half_right t b) (at 8 (byte_right t) e b hb) h hh) v hv);
    }

-- a byte is the sum of its halves
sum_of_halves : (x : ℕ) → x < 256 → bit_xor (x % 16 * 256) (x / 16 * 16 * 256) ≡ x * 256
sum_of_halves x h =
    let e : x / 16 * 16 * 256 ≡ x / 16 * 4096 = omega arith in
    xor_comm (x % 16 * 256) (x / 16 * 16 * 256) ∙ ap (λ z. bit_xor z (x % 16 * 256)) e
    ∙ xor_shifted (x / 16) 12 (x % 16 * 256) (omega arith) ∙ omega arith

-- so the two entries of a byte add up to what the byte comes to
pub share_law : (t : List ℕ) (b x : ℕ) → Halves t → b < 8 → x < 256
    → bit_xor (get_or t (b * 32 + x % 16) 0) (get_or t (b * 32 + 16 + x / 16) 0) ≡ rounds (8 - b) (x * 256)
share_law t b x h hb hx =
    ap₂ bit_xor
    (ap (λ i. get_or t i 0) (omega arith) ∙ h.entry b 0 (x % 16) hb (lit< tt) (omega arith) ∙ ap (rounds (8 - b)) (omega arith))
    (ap (λ i. get_or t i 0) (omega arith) ∙ h.entry b 1 (x / 16) hb (lit< tt) (omega arith))
    ∙ sym ((rounds_linear (8 - b)).sum (x % 16 * 256) (x / 16 * 16 * 256) (omega arith) (omega arith))
    ∙ ap (rounds (8 - b)) (sum_of_halves x hx)
