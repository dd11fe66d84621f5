-- The table of half-bytes, by which eight bytes are taken in one step.
use Rattle.std.specs.Prelude.{◌≡◌, List, ℕ, zero, suc, ◌+◌, ◌-◌, ◌*◌, ◌^◌, ◌<◌, get_or}
use Rattle.crc_rules.specs.inner.Shifts.{shift8}

-- n times eight shifts: what n bytes of zeros make of a register
unfoldable pub rounds : ℕ → ℕ → ℕ
rounds zero r = r
rounds (suc n) r = rounds n (shift8 r)

-- the entry for v in half h of byte b of eight (h 0: the low half) is what v comes to after the rest of the eight
pub record Halves (t : List ℕ) : Type 0 where
  pub entry : (b h v : ℕ) → b < 8 → h < 2 → v < 16 → get_or t (b * 32 + h * 16 + v) 0 ≡ rounds (8 - b) (v * 16 ^ h * 256)
