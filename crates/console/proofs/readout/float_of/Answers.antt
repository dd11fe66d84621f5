-- `readout::float_of` makes a float of no NaN's pattern. Assumes nothing.
use mathlib.Core.Path.{sym, subst, ◌∙◌}
use mathlib.Core.Bool.{Bool, not}
use lib.Dec.{T}
use Rattle.console.proofs.readout.float_of.Goals as goal

pub float_from_bits-result : goal.float_from_bits-result
float_from_bits-result c = subst (λ (b : Bool). T (not b)) (sym (sym c.is_nan.ensures ∙ c.if-is_nan.false)) tt
