-- `plans::write_address` meets its contract: destination goes on where source stops. Assumes nothing.
use Rattle.text_rules.proofs.Laws.{lays_more}
use Rattle.console.specs.inner.Said.{address_said}
use Rattle.console.proofs.plans.write_address.Goals as goal

pub returns-in-None : goal.returns-in-None
unfolding address_said
returns-in-None c = rw c.in-None.is c.plain.ensures

pub returns-in-Some : goal.returns-in-Some
unfolding address_said
returns-in-Some c =
    let A = c.args in
    let Plain = c.plain-to in
    let Source = c.hex-behind in
    let First = c.bytes2 in
    let Second = c.bytes2-in-Some in
    rw (c.in-Some.is, ← First.ensures, ← Second.ensures)
    (lays_more A.out.now A.at _ _ (lays_more A.out.now A.at _ _ Plain.ensures Source.ensures) c.hex.ensures)
