-- `most_lost` meets its contract: the two cases of the figure. Assumes nothing.
use Prim.Native.Nat.{◌+◌, ◌/◌}
use native.Mathlib.Nat.{div-le_self}
use native.Mathlib.Omega.{arith}
use Rattle.base_rules.specs.Bounds.{parity}
use Rattle.endurance_rules.proofs.Exact.{stands_few, stands_all, whole}
use Rattle.endurance.proofs.most_lost.Goals as goal

pub overflow_add-few : goal.overflow_add-few
overflow_add-few c = omega (arith, div-le_self c.args.n c.args.f, c.requires.2)

pub returns-then-few-thick : goal.returns-then-few-thick
returns-then-few-thick c = let a = c.args in stands_few a.n a.f c.if-few-thick.true

pub overflow_sub-result : goal.overflow_sub-result
overflow_sub-result c = omega (arith, c.if-few-thick.false, div-le_self parity (c.args.n / c.args.f + 1))

pub nonzero_div-result : goal.nonzero_div-result
nonzero_div-result c = let a = c.args in whole a.n a.f c.requires.0 c.requires.1 c.if-few-thick.false

pub returns : goal.returns
returns c = let a = c.args in stands_all a.n a.f c.if-few-thick.false
