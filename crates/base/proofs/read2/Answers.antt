-- `read2` meets its contract: the second byte follows the first, and past the end there are zeros. Assumes nothing.
use Rattle.base_rules.proofs.Numbers.{number_one, number_more, number_past}
use Rattle.base.proofs.read2.Goals as goal

pub returns-then-i-s : goal.returns-then-i-s
returns-then-i-s c = number_more 1 _ _ (number_one _ _ c.byte_at.ensures) c.byte_at-then-i-s.ensures

pub returns-else-i-s : goal.returns-else-i-s
returns-else-i-s c =
    let a = c.args in
    number_past 2 a.s.now a.i c.if-i-s.false
