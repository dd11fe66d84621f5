-- `accept` meets its contract: by the place that holds the number, or a place that is opened. Assumes nothing.
use mathlib.Core.Path.{◌≡◌, refl}
use native.Mathlib.Omega.{arith}
use lib.ListN.{length}
use Rattle.base_rules.specs.Refusal.{fault_in}
use Rattle.base_rules.proofs.Answers.{number-positive}
use Rattle.places_rules.specs.Places.{four}
use Rattle.receiver_rules.proofs.Arrivals.{refusal_is, turned_long, arrives_refused, arrives_there, arrives_new, there_fine, new_fine, new_below}
use Rattle.receiver.proofs.keeping.accept.Goals as goal

pub returns-in-Err : goal.returns-in-Err
unfolding fault_in
returns-in-Err c =
    let a = c.args in
    arrives_refused a.t a.h a.lent.now a.payload.now a.out.now c.held_at-i.ensures
    c.if-i-lt-FOUR.true c.place_at-p.ensures c.in-Err.ensures
    (λ z. omega (arith, number-positive c.in-Err.e, z)) (refusal_is _ _ c.refusal.ensures)

pub keep-requires : goal.keep-requires
unfolding fault_in
keep-requires c =
    let a = c.args in
    let p = c.requires in
    let below = c.if-i-lt-FOUR.true in (
      below,
      p.1,
      p.2,
      there_fine a.t a.h p.2.sound p.0 below c.place_at-p.ensures c.in_default.ensures refl,
    )

pub returns-then-i-lt-FOUR : goal.returns-then-i-lt-FOUR
unfolding fault_in
returns-then-i-lt-FOUR c =
    let a = c.args in
    let size : length a.t.places ≡ four = omega arith in
    arrives_there a.t a.h a.lent.now a.payload.now a.out.now c.held_at-i.ensures c.if-i-lt-FOUR.true c.place_at-p.ensures
    c.in_default.ensures refl (c.keep.ensures a.t size refl)

pub keep-requires-2 : goal.keep-requires-2
keep-requires-2 c =
    let A = c.args in
    let P = c.requires in
    let a = A in
    let p = P in (
      new_below a.t a.h p.2.sound p.0 c.open_at-j.ensures,
      p.1,
      p.2,
      new_fine a.t a.h p.2.sound c.opened_by.ensures,
    )

pub returns : goal.returns
returns c =
    let A = c.args in
    let Held-at = c.held_at-i in
    let If1 = c.if-i-lt-FOUR in
    let Open-at = c.open_at-j in
    let Displaced-at = c.displaced_at-d in
    let Turned = c.turned-u in
    let Opened-by = c.opened_by in
    let a = A in
    let size : length a.t.places ≡ four = omega arith in
    arrives_new a.t a.h a.lent.now a.payload.now a.out.now Held-at.ensures If1.false _ _ _ Open-at.ensures
    Displaced-at.ensures Turned.ensures Opened-by.ensures
    (c.keep-2.ensures _ (turned_long a.t _ Turned.ensures size) refl)
