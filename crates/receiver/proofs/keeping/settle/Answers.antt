-- `settle` meets its contract: the place settles by what forming answered. Assumes nothing.
use mathlib.Core.Path.{sym, ap, ◌∙◌}
use Rattle.std.specs.Prelude.{Ok}
use Rattle.places_rules.specs.Places.{with_place}
use Rattle.places_rules.specs.Faults.{bad_place}
use Rattle.receiver_rules.proofs.Ranges.{written_place}
use Rattle.receiver_rules.proofs.Forming.{changes, closes, formed_at, settles_waiting, settles_delivered, settles_damaged, never-refused}
use Rattle.receiver.proofs.keeping.settle.Goals as goal

pub returns-in-Ok-Waits : goal.returns-in-Ok-Waits
returns-in-Ok-Waits c =
    let A = c.args in
    let P = c.requires in
    λ t size turn.
    let a = A in
    let u = with_place t a.i a.p in
    let there = written_place t a.i a.p size P.0 in
    settles_waiting u a.i a.d a.lent.now a.out.now
    (formed_at u a.i a.lent.now a.out.now (sym there) (c.in-Ok-Waits.is ∙ ap Ok c.in-Ok-Waits.field-0-is) c.form.ensures)
    (changes t _ turn)

pub returns-in-Ok-Packet : goal.returns-in-Ok-Packet
returns-in-Ok-Packet c =
    let A = c.args in
    let P = c.requires in
    let Form = c.form in
    λ t size turn.
    let a = A in
    let u = with_place t a.i a.p in
    let there = written_place t a.i a.p size P.0 in
    settles_delivered u a.i a.d a.lent.now a.out.now
    (formed_at u a.i a.lent.now a.out.now (sym there) (c.in-Ok-Packet.is ∙ ap Ok c.in-Ok-Packet.field-0-is) Form.ensures) (changes t _ turn
    ∙ closes t a.i _ a.p size P.0 c.in_condition.ensures)

pub returns-in-Ok-Nothing : goal.returns-in-Ok-Nothing
returns-in-Ok-Nothing c =
    let A = c.args in
    let P = c.requires in
    λ t size turn.
    let a = A in
    let u = with_place t a.i a.p in
    let there = written_place t a.i a.p size P.0 in
    settles_damaged u a.i a.d a.lent.now a.out.now
    (formed_at u a.i a.lent.now a.out.now (sym there) (c.in-Ok-Nothing.is ∙ ap Ok c.in-Ok-Nothing.field-0-is)
    c.form.ensures) (changes t _ turn ∙ closes t a.i _ a.p size P.0 c.in_condition-in-Ok-Nothing.ensures)

pub returns-in-Err : goal.returns-in-Err
returns-in-Err c =
    let A = c.args in
    let P = c.requires in
    λ t size turn.
    let a = A in
    let p = P in
    let u = with_place t a.i a.p in
    let there = written_place t a.i a.p size p.0 in
    absurd (never-refused u a.i a.lent.now a.out.now p.0 p.1 (ap bad_place there ∙ p.2)
    (formed_at u a.i a.lent.now a.out.now (sym there) c.in-Err.is c.form.ensures))
