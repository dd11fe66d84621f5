-- `change_by` meets its contract: the checks in their order, and then the fragment arrives. Assumes nothing.
use mathlib.Core.Path.{refl, sym}
use native.Mathlib.Omega.{arith}
use Rattle.base_rules.specs.Refusal.{fault_in}
use Rattle.base_rules.proofs.Answers.{number-positive}
use Rattle.base_rules.proofs.ByteLaws.{bytes_from}
use Rattle.receiver_rules.proofs.Ranges.{fine_table, fine_room}
use Rattle.receiver_rules.proofs.Arrivals.{refusal_is}
use Rattle.receiver_rules.proofs.Steps.{header_refused, header_passed, payload_within, heard, step_room_lem, step_header, step_arrives}
use Rattle.receiver.proofs.keeping.change_by.Goals as goal

pub returns-in-Err : goal.returns-in-Err
unfolding fault_in
returns-in-Err c =
    let a = c.args in
    step_room_lem a.own a.table a.lent.now a.datagram.now a.out.now c.in-Err.ensures
    (λ z. omega (arith, number-positive c.in-Err.e, z)) (refusal_is _ _ c.refusal.ensures)

pub overflow_sub-at : goal.overflow_sub-at
overflow_sub-at c =
    let a = c.args in
    let p = header_passed a.own a.datagram.now c.parse.ensures.0 c.in-Ok.is in
    payload_within a.own a.datagram.now p.0 p.1

pub accept-requires : goal.accept-requires
unfolding fault_in
accept-requires c =
    let a = c.args in
    let p = header_passed a.own a.datagram.now c.parse.ensures.0 c.in-Ok.is in
    let none = sym c.in_default.ensures in
    let r = fine_room a.table _ _ none in (
      fine_table a.table _ _ none,
      record { all = r.0; room = r.1 },
      heard a.own a.datagram.now p.0 p.1
          (bytes_from a.datagram.now (λ i l. (c.type_inv.datagram i).fits)),
    )

pub returns-in-Err-parse : goal.returns-in-Err-parse
unfolding fault_in
returns-in-Err-parse c =
    let a = c.args in
    step_header a.own a.table a.lent.now a.datagram.now a.out.now c.in_default.ensures refl
    (header_refused a.own a.datagram.now c.parse.ensures.0 c.in-Err-parse.is)
    (refusal_is _ _ c.refusal-in-Err-parse.ensures)

pub returns-in-Ok : goal.returns-in-Ok
unfolding fault_in
returns-in-Ok c =
    let a = c.args in
    let p = header_passed a.own a.datagram.now c.parse.ensures.0 c.in-Ok.is in
    step_arrives a.own a.table a.lent.now a.datagram.now a.out.now c.in_default.ensures refl _ p
    c.accept.ensures
