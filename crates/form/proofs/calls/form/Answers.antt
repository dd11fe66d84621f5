-- `form` meets its contract: a refusal, then whether the fragments suffice, and then what is handed out. Assumes nothing.
use mathlib.Core.Path.{◌≡◌, sym}
use mathlib.Core.Bool.{false}
use Prim.Native.Nat.{ℕ, ◌≤◌}
use lib.ListN.{length}
use Rattle.std.proofs.lemmas.Result.{err_from_is_err_and}
use Rattle.base_rules.specs.Bounds.{most_l, place}
use Rattle.base_rules.specs.Refusal.{fault_in}
use Rattle.base_rules.proofs.Logic.{told}
use Rattle.places_rules.specs.Faults.{bad_place}
use Rattle.places_rules.specs.declared.Place.{Place}
use Rattle.form_rules.specs.Calls.{form_fault}
use Rattle.form_rules.proofs.Checks.{fault_free}
use Rattle.form_rules.proofs.Handing.{form_refused, form_waits}
use Rattle.form.proofs.calls.form.Goals as goal

free : (p : Place) (held room : ℕ) → 0 ≡ form_fault p held room → (bad_place p ≡ false) × (place ≤ held) × (most_l ≤ room)
free p held room none = fault_free p held room (sym none)

pub returns-in_err-form_fault : goal.returns-in_err-form_fault
unfolding fault_in
returns-in_err-form_fault c =
    let a = c.args in
    let p = err_from_is_err_and c.from_residual.result c.from_residual.ensures.1 in
    rw (p.1, p.2) (form_refused a.p a.held.now a.out.now _ c.in_err-form_fault.ensures)

pub enough_in-requires : goal.enough_in-requires
unfolding fault_in
enough_in-requires c = (free _ _ _ c.in_ok-form_fault.ensures).0

pub returns-then-not-enough_in : goal.returns-then-not-enough_in
unfolding fault_in
returns-then-not-enough_in c =
    let a = c.args in
    form_waits a.p a.held.now a.out.now c.in_ok-form_fault.ensures (told c.enough_in.ensures c.if-not-enough_in.true)

pub hand_out-requires : goal.hand_out-requires
unfolding fault_in
hand_out-requires c =
    let known = free c.args.p (length c.args.held.now) (length c.args.out.now) c.in_ok-form_fault.ensures in
    let enough = told c.enough_in.ensures c.if-not-enough_in.false in
    (record { ranged = known.0; suffice = enough; room = known.1 }, known.2)
