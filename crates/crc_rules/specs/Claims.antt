-- Annex A's constant 1D0F, as claims: the proofs are in proofs/Residue.antt.
use Rattle.std.specs.Prelude.{◌≡◌, false, List, [], ◌∷◌, ◌++◌, ℕ, ◌+◌, ◌*◌, ◌<◌, eqb, length}
use Rattle.base_rules.specs.Bytes.{Bytes}
use Rattle.crc_rules.specs.Crc.{ones, residue, register_of, word_of}

-- Annex A: run over data and two bytes more, the register is 1D0F if, and only if, the two are the data's CRC as sent
abbrev pub ResidueLaw : Type 0
ResidueLaw =
    (s : List ℕ) (a b : ℕ) → Bytes s → a < 256 → b < 256
    → (register_of ones (s ++ (a ∷ b ∷ [])) ≡ residue → a * 256 + b ≡ word_of s)
    × (a * 256 + b ≡ word_of s → register_of ones (s ++ (a ∷ b ∷ [])) ≡ residue)

-- Annex A, 1D0F: over no byte or one the register is never that, so what has no room for a CRC is not taken for intact
abbrev pub NoneUnderTwo : Type 0
NoneUnderTwo = (s : List ℕ) → Bytes s → length s < 2 → eqb (register_of ones s) residue ≡ false
