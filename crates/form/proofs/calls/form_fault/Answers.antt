-- `form_fault` meets its contract. Assumes nothing.
use Rattle.base_rules.specs.Refusal.{number, fault_in}
use Rattle.base_rules.proofs.Logic.{told}
use Rattle.form_rules.proofs.Checks.{fault_14, fault_held, fault_room, fault_none}
use Rattle.form.proofs.calls.form_fault.Goals as goal

pub returns-then-bad_place : goal.returns-then-bad_place
unfolding fault_in number
returns-then-bad_place c = let a = c.args in fault_14 a.p a.held a.room (told c.bad_place.ensures c.if-bad_place.true)

pub returns-then-held-lt-PLACE : goal.returns-then-held-lt-PLACE
unfolding fault_in number
returns-then-held-lt-PLACE c =
    let a = c.args in fault_held a.p a.held a.room
    (told c.bad_place.ensures c.if-bad_place.false) c.if-held-lt-PLACE.true

pub returns-then-room-lt-MOST_L : goal.returns-then-room-lt-MOST_L
unfolding fault_in number
returns-then-room-lt-MOST_L c =
    let a = c.args in fault_room a.p a.held a.room
    (told c.bad_place.ensures c.if-bad_place.false) c.if-held-lt-PLACE.false c.if-room-lt-MOST_L.true

pub returns : goal.returns
unfolding fault_in
returns c =
    let a = c.args in fault_none a.p a.held a.room
    (told c.bad_place.ensures c.if-bad_place.false) c.if-held-lt-PLACE.false c.if-room-lt-MOST_L.false
