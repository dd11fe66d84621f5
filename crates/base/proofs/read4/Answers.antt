-- `read4` meets its contract: the fourth byte follows the three. Assumes nothing.
use native.Mathlib.Omega.{arith}
use Rattle.base_rules.proofs.Numbers.{number_more, number_past}
use Rattle.base.proofs.read4.Goals as goal

pub overflow_mul-result : goal.overflow_mul-result
overflow_mul-result c = omega arith

pub overflow_add-result : goal.overflow_add-result
overflow_add-result c = omega arith

pub returns-then-i-s : goal.returns-then-i-s
returns-then-i-s c = number_more 3 _ _ c.read3.ensures.0 c.byte_at.ensures

pub returns-else-i-s : goal.returns-else-i-s
returns-else-i-s c =
    let a = c.args in
    number_past 4 a.s.now a.i c.if-i-s.false
