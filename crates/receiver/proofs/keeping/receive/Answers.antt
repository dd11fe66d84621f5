-- `receive` meets its contract: the record is made anew with what the datagram changes. Assumes nothing.
use Rattle.receiver_rules.proofs.Steps.{step-changed}
use Rattle.receiver.proofs.keeping.receive.Goals as goal

pub returns : goal.returns
returns c =
    let A = c.args in
    let Change-by = c.change_by-c in
    let a = A in
    step-changed a.own a.table a.lent.now a.datagram.now a.out.now _ _ _ c.with_place.ensures Change-by.ensures
