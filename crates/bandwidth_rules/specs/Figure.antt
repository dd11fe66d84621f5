-- The figure of "rbw_" as a float of 32 bits (document 004, clause 6.4.3.4; document 02, Item 10). `Float` and its operators are the logic's IEEE 754.
use Rattle.std.specs.Prelude.{Option, Some, None}
use Rattle.std.specs.Prelude.{Bool, false, cond, not, ◌&&◌, ℕ, ◌*◌, ◌/◌, ◌%◌, eqb, ltb, pos, Float}
use Rattle.std.specs.Float.Ieee as Ieee
use Rattle.std.specs.Float.{nan, inf, fin, binary32}
use Rattle.std.specs.Float.Ieee.{up, down}

-- 256.0
abbrev pub scale : Float
scale = fin false 1 (pos 8)

-- document 02, "16 bits": how many figures there are
abbrev pub figures : ℕ
figures = 65536

-- "Byte1 + Byte2 / 256", of the number n that the two bytes are: n as a float, divided by 256.0
unfoldable pub figure_of : ℕ → Float
figure_of n = Ieee.div binary32 (Ieee.of_int binary32 (pos n)) scale

-- how many 256ths a float has in size, a fraction of one dropped
unfoldable pub in256ths : Float → ℕ
in256ths nan = 0
in256ths (inf s) = 0
in256ths (fin s m e) = m * up e * 256 / down e

-- document 02, 61 FIGURE: whether a float is no NaN and no infinity, has no minus sign (minus zero has one), is a "multiple of 1/256", and one "from 0 to
-- 255 + 255/256"
unfoldable pub is_figure : Float → Bool
is_figure nan = false
is_figure (inf s) = false
is_figure (fin s m e) = not s && eqb (m * up e * 256 % down e) 0 && ltb (in256ths (fin s m e)) figures

-- which figure a float is
unfoldable pub whole_of : Float → Option ℕ
whole_of x = cond (is_figure x) (Some (in256ths x)) None
