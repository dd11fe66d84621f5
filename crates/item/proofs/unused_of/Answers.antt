-- `item::unused_of` meets its contract: eight times a rounded eighth is less than eight too much.
use native.Mathlib.Omega.{arith}
use Rattle.base_rules.specs.Round.{ceil}
use Rattle.item_rules.specs.Item.{bytes_for, unused_of}
use Rattle.item.proofs.unused_of.Goals as goal

pub returns : goal.returns
unfolding unused_of bytes_for ceil
returns c = omega arith

pub overflow_mul-result : goal.overflow_mul-result
unfolding bytes_for ceil
overflow_mul-result c = omega arith

pub overflow_sub-result : goal.overflow_sub-result
unfolding bytes_for ceil
overflow_sub-result c = omega arith

pub overflow_cast-result-2 : goal.overflow_cast-result-2
unfolding bytes_for ceil
overflow_cast-result-2 c = omega arith
