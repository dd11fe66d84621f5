use mathlib.Core.Path.{◌≡◌, refl, sym, ap, ◌∙◌}
use borrow.Author.Rules.{rules}
use mathlib.Core.Bool.{false}
use native.Mathlib.Omega.{arith}
use lib.ListN.{length, length-replicate}
use Rattle.std.specs.Prelude.{Ok, Err}
use Rattle.base_rules.specs.Refusal.{fault_in}
use Rattle.base_rules.proofs.Answers.{number-positive}
use Rattle.item_rules.specs.Run.{slots}
use Rattle.item_rules.proofs.Steps.{item_fits}
use Rattle.item_rules.proofs.Runs.{item_begins, falls}
use Rattle.item_rules.proofs.Seen.{seen_none}
use Rattle.tag_rules.proofs.Checking.{check_turn, check_stops, check_ends, check_refused}
use Rattle.tag.proofs.check.Goals as goal

pub loop-step-init : goal.loop-step-init
loop-step-init c = seen_none _ _ _ _ _ (ap length c.no_marks-marks.ensures ∙ length-replicate slots false)

pub returns-in_err-step : goal.returns-in_err-step
unfolding fault_in
returns-in_err-step c =
    let r : c.from_residual.result ≡ Err c.in_err-step.field-0.0 = search rules in
    ap fault_in r
    ∙ check_refused _ _ _ _ c.loop-step.invariant _ (sym c.step_in.ensures.0 ∙ c.in_err-step.was)

pub returns-in_err-fault_of-in-Item : goal.returns-in_err-fault_of-in-Item
unfolding fault_in
returns-in_err-fault_of-in-Item c =
    let e = sym c.step_in.ensures.0 ∙ c.in_ok-step.was ∙ ap Ok c.in-Item.is in
    let r : c.from_residual-in_err-fault_of-in-Item.result ≡ Err c.in_err-fault_of-in-Item.field-0.0 = search rules in
    let n = number-positive c.in_err-fault_of-in-Item.field-0.0 in
    ap fault_in r
    ∙ check_stops _ _ _ _ c.loop-step.invariant _ e _ _ _ c.slot-h.ensures.0 c.marked-mark.ensures
    (sym (ap fault_in c.in_err-fault_of-in-Item.was) ∙ c.fault_of.ensures) (λ z. omega (arith, n, z))

pub overflow_add-at : goal.overflow_add-at
overflow_add-at c =
    let e = sym c.step_in.ensures.0 ∙ c.in_ok-step.was ∙ ap Ok c.in-Item.is in
    omega (arith, item_begins _ _ _ _ e, item_fits _ _ _ _ e)

pub loop-step-smaller : goal.loop-step-smaller
loop-step-smaller c =
    omega (arith, falls _ _ _ _ (sym c.step_in.ensures.0 ∙ c.in_ok-step.was ∙ ap Ok c.in-Item.is))

pub loop-step-preserved : goal.loop-step-preserved
unfolding fault_in
loop-step-preserved c =
    let e = sym c.step_in.ensures.0 ∙ c.in_ok-step.was ∙ ap Ok c.in-Item.is in
    let h = c.slot-h.ensures.0 in
    let m = c.marked-mark.ensures in
    check_turn _ _ _ _ c.loop-step.invariant _ e _ _ _ h m
    (sym (ap fault_in c.in_ok-fault_of-in-Item.was) ∙ c.fault_of.ensures) refl

pub returns-in-End : goal.returns-in-End
unfolding fault_in
returns-in-End c =
    check_ends _ _ _ _ c.loop-step.invariant _ (sym c.step_in.ensures.0 ∙ c.in_ok-step.was ∙ ap Ok c.in-End.is)
