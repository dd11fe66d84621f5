-- `held_in` meets its contract: each branch is a length of the item. Assumes nothing.
use Rattle.bandwidth_rules.proofs.Reading.{says_width, says_none, says_nothing}
use Rattle.bandwidth.proofs.held_in.Goals as goal

pub returns-then-bits-eq-RBW_BITS : goal.returns-then-bits-eq-RBW_BITS
returns-then-bits-eq-RBW_BITS c = says_width _ _ _ _ c.if-bits-eq-RBW_BITS.true c.read2-n.ensures c.figure.ensures

pub returns-then-bits-eq0 : goal.returns-then-bits-eq0
returns-then-bits-eq0 c = says_none _ _ c.if-bits-eq-RBW_BITS.false c.if-bits-eq0.true

pub returns-else-bits-eq0 : goal.returns-else-bits-eq0
returns-else-bits-eq0 c = says_nothing _ _ c.if-bits-eq-RBW_BITS.false c.if-bits-eq0.false
