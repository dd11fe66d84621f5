-- `clear` meets its contract. Assumes nothing.
use Rattle.receiver_rules.proofs.Shows.{clear_refused, clear_done}
use Rattle.receiver.proofs.table.clear.Goals as goal

pub returns-in-Ok : goal.returns-in-Ok
returns-in-Ok c = clear_done _ _ c.room_fault-answer.ensures c.in-Ok.is c.fresh.ensures

pub returns-in-Err : goal.returns-in-Err
returns-in-Err c = clear_refused _ _ c.room_fault-answer.ensures c.in-Err.is
