-- `reply` is safe: the answer leaves room for the newline.
use Rattle.std.proofs.Common.{arith}
use Rattle.ask.proofs.Parts.{front, closed}
use Rattle.ask.proofs.reply.Goals as goal

pub slice_bounds-answer-end : goal.slice_bounds-answer-end
slice_bounds-answer-end g c = front _ c.room-out.result (omega arith)

pub bounds-out-n : goal.bounds-out-n
bounds-out-n g c = (closed 106506 10 c.room-out.result (omega arith) c.answer-n.ensures).0

pub overflow_add-out : goal.overflow_add-out
overflow_add-out g c = omega (arith, (closed 106506 10 c.room-out.result (omega arith) c.answer-n.ensures).0)

pub slice_bounds-out-end-2 : goal.slice_bounds-out-end-2
slice_bounds-out-end-2 g c = (closed 106506 10 c.room-out.result (omega arith) c.answer-n.ensures).1

pub slice_bounds-write_all-end : goal.slice_bounds-write_all-end
slice_bounds-write_all-end g c = front _ _ (closed 106506 10 c.room-out.result (omega arith) c.answer-n.ensures).1
