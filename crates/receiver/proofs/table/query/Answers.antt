-- `query` meets its contract. Assumes nothing.
use mathlib.Core.Path.{refl, sym}
use Rattle.std.proofs.lemmas.Result.{err_from_is_err_and}
use Rattle.base_rules.specs.Refusal.{fault_in}
use Rattle.receiver_rules.proofs.Ranges.{fine_table}
use Rattle.receiver_rules.proofs.Shows.{query_refused, query_shown}
use Rattle.receiver.proofs.table.query.Goals as goal

pub returns-in_err-room_fault : goal.returns-in_err-room_fault
returns-in_err-room_fault c =
    let p = err_from_is_err_and c.from_residual.result c.from_residual.ensures.1 in
    rw (p.1, p.2) (query_refused _ _ c.in_err-room_fault.ensures refl)

pub seen_at-requires : goal.seen_at-requires
unfolding fault_in
seen_at-requires c = fine_table _ _ _ (sym c.in_ok-room_fault.ensures)

pub seen_at-requires-2 : goal.seen_at-requires-2
unfolding fault_in
seen_at-requires-2 c = fine_table _ _ _ (sym c.in_ok-room_fault.ensures)

pub seen_at-requires-3 : goal.seen_at-requires-3
unfolding fault_in
seen_at-requires-3 c = fine_table _ _ _ (sym c.in_ok-room_fault.ensures)

pub seen_at-requires-4 : goal.seen_at-requires-4
unfolding fault_in
seen_at-requires-4 c = fine_table _ _ _ (sym c.in_ok-room_fault.ensures)

pub returns : goal.returns
returns c =
    query_shown _ _ c.in_ok-room_fault.ensures refl _
    c.seen_at.ensures c.seen_at-2.ensures c.seen_at-3.ensures c.seen_at-4.ensures
