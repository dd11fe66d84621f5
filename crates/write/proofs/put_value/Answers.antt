-- `put_value` meets its contract: a put with room, and its last byte stored again. Assumes nothing.
use native.Mathlib.Nat.{mod-le}
use Rattle.write_rules.proofs.Puts.{value_put, nothing_put}
use Rattle.write.proofs.put_value.Goals as goal

pub overflow_sub-out : goal.overflow_sub-out
overflow_sub-out c = mod-le _ _

pub returns-then-n-gt0 : goal.returns-then-n-gt0
returns-then-n-gt0 c =
    let P = c.requires in
    value_put _ _ _ _ _ P.0 c.if-n-gt0.true c.put.ensures

pub returns-else-n-gt0 : goal.returns-else-n-gt0
returns-else-n-gt0 c =
    let P = c.requires in
    nothing_put _ _ _ _ _ P.0 c.if-n-gt0.false c.put.ensures
