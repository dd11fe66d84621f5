-- `readout::pattern_of` asks for no NaN's pattern: a NaN differs from itself. Assumes nothing.
use mathlib.Core.Path.{◌≡◌}
use mathlib.Core.Bool.{false, not}
use lib.Dec.{T}
use lib.Ieee.{Float, nan, inf, fin, ne, is_nan}
use lib.Ieee.Compare.{nan_differs}
use Rattle.base_rules.proofs.Logic.{clash}
use Rattle.console.proofs.readout.pattern_of.Goals as goal

itself : (x : Float) → ne x x ≡ false → T (not (is_nan x))
unfolding is_nan
itself nan e = clash nan_differs e
itself (inf s) e = tt
itself (fin s m e) q = tt

pub float_to_bits-result : goal.float_to_bits-result
float_to_bits-result c = itself _ c.if-x.false
