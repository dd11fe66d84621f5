-- `read3` meets its contract: the third byte follows the two. Assumes nothing.
use native.Mathlib.Omega.{arith}
use Rattle.base_rules.proofs.Numbers.{number_more, number_past}
use Rattle.base.proofs.read3.Goals as goal

pub returns-then-i-s : goal.returns-then-i-s
returns-then-i-s c = (number_more 2 _ _ c.read2.ensures c.byte_at.ensures, omega arith)

pub returns-else-i-s : goal.returns-else-i-s
returns-else-i-s c =
    let a = c.args in
    (number_past 3 a.s.now a.i c.if-i-s.false, omega arith)
