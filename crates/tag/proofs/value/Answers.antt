-- `tag::value` meets its contract.
use native.Mathlib.Omega.{arith}
use Rattle.tag_rules.proofs.Values.{value_none, value_cut, value_whole, place_none, place_inside}
use Rattle.tag.proofs.value.Goals as goal

pub returns-then-packet-from : goal.returns-then-packet-from
returns-then-packet-from c = (value_none _ _ (omega (arith, c.if-packet-from.true)), place_none _ _ c.if-packet-from.true)

pub returns-then-packet-from-2 : goal.returns-then-packet-from-2
returns-then-packet-from-2 c = (value_cut _ _ c.if-packet-from-2.true, place_inside _ _ (omega arith))

pub returns : goal.returns
returns c = (value_whole _ _, place_inside _ _ (omega arith))
