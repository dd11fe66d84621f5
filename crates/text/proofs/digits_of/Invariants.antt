-- `digits_of` meets its contract: the digits of what is left and those that stand already are the digits of the number. Assumes nothing.
use mathlib.Core.Path.{◌≡◌}
use mathlib.Core.List.{◌++◌}
use Prim.Native.Nat.{◌+◌, ◌^◌, ◌<◌}
use lib.ListN.{drop}
use Rattle.text_rules.specs.Text.{decimal_of}
use Rattle.text.proofs.digits_of.Given as goal

abbrev pub invariant-loop-rest : goal.invariant-loop-rest
invariant-loop-rest l = (l.rest < 10 ^ (l.i + 1)) × (l.i < 20) × (decimal_of l.rest ++ drop (l.i + 1) l.digits ≡ decimal_of l.value)

abbrev pub decreases-loop-rest : goal.decreases-loop-rest
decreases-loop-rest l = l.rest
