-- `room_fault` meets its contract. Assumes nothing.
use Rattle.base_rules.specs.Refusal.{number, fault_in}
use Rattle.base_rules.proofs.Logic.{told}
use Rattle.receiver_rules.proofs.Ranges.{due_14, due_1, due_none}
use Rattle.receiver.proofs.table.room_fault.Goals as goal

pub returns-then-bad_table : goal.returns-then-bad_table
unfolding fault_in number
returns-then-bad_table c = due_14 _ _ _ (told c.bad_table.ensures c.if-bad_table.true)

pub returns-then-bad_room : goal.returns-then-bad_room
unfolding fault_in number
returns-then-bad_room c =
    due_1 _ _ _ (told c.bad_table.ensures c.if-bad_table.false)
    (told c.bad_room.ensures c.if-bad_room.true)

pub returns : goal.returns
unfolding fault_in
returns c =
    due_none _ _ _ (told c.bad_table.ensures c.if-bad_table.false)
    (told c.bad_room.ensures c.if-bad_room.false)
