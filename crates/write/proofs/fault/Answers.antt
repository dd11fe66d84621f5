-- `fault` meets its contract: each branch is a test of the list. Assumes nothing.
use native.Mathlib.Omega.{arith}
use Rattle.base_rules.specs.Refusal.{number, fault_in}
use Rattle.base_rules.proofs.Logic.{told}
use Rattle.base_rules.specs.Round.{ceil}
use Rattle.item_rules.specs.Item.{bytes_for}
use Rattle.write_rules.proofs.Refusals.{not-bytes, not-ptr, no_room, all_right}
use Rattle.write.proofs.fault.Goals as goal

pub returns-then-len-n : goal.returns-then-len-n
unfolding fault_in number
returns-then-len-n c = not-bytes _ _ _ _ _ c.bytes_of-n.ensures c.if-len-n.true

pub returns-then-bad_ptr : goal.returns-then-bad_ptr
unfolding fault_in number
returns-then-bad_ptr c =
    not-ptr _ _ _ _ _ c.bytes_of-n.ensures c.if-len-n.false
    (told c.bad_ptr.ensures c.if-bad_ptr.true)

pub overflow_add-n : goal.overflow_add-n
unfolding bytes_for ceil
overflow_add-n c = omega arith

pub returns-then-room-n : goal.returns-then-room-n
unfolding fault_in number
returns-then-room-n c =
    let Bytes_of = c.bytes_of-n in
    no_room _ _ _ _ _ Bytes_of.ensures c.if-len-n.false
    (told c.bad_ptr.ensures c.if-bad_ptr.false) (omega arith)

pub returns-else-room-n : goal.returns-else-room-n
unfolding fault_in number
returns-else-room-n c =
    let Bytes_of = c.bytes_of-n in
    all_right _ _ _ _ _ Bytes_of.ensures c.if-len-n.false
    (told c.bad_ptr.ensures c.if-bad_ptr.false) (omega arith)
