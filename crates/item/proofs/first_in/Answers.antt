use native.Mathlib.Omega.{arith}
use mathlib.Core.Path.{refl, sym, ap, ◌∙◌}
use Rattle.std.specs.Prelude.{Ok}
use Rattle.item_rules.proofs.Steps.{item_fits}
use Rattle.item_rules.proofs.Runs.{item_begins, falls, first_here, first_next, first_end, first-refused}
use Rattle.item_rules.proofs.Numbers.{found_told}
use Rattle.item.proofs.first_in.Goals as goal

pub loop-step-init : goal.loop-step-init
loop-step-init c = refl

pub returns-then-i-name : goal.returns-then-i-name
returns-then-i-name c =
    let k = c in
    let e = sym k.step_in.ensures.0 ∙ k.in-Ok.is ∙ ap Ok k.in-Item.is in
    found_told _ _ _ (sym (k.loop-step.invariant ∙ first_here _ _ _ _ _ e c.if-i-name.true))

pub overflow_add-at : goal.overflow_add-at
overflow_add-at c =
    let e = sym c.step_in.ensures.0 ∙ c.in-Ok.is ∙ ap Ok c.in-Item.is in
    omega (arith, item_begins _ _ _ _ e, item_fits _ _ _ _ e)

pub loop-step-smaller : goal.loop-step-smaller
loop-step-smaller c =
    let k = c in
    omega (arith, falls _ _ _ _ (sym k.step_in.ensures.0 ∙ k.in-Ok.is ∙ ap Ok k.in-Item.is))

pub loop-step-preserved : goal.loop-step-preserved
loop-step-preserved c =
    let k = c in
    let e = sym k.step_in.ensures.0 ∙ k.in-Ok.is ∙ ap Ok k.in-Item.is in
    k.loop-step.invariant ∙ first_next _ _ _ _ _ e c.if-i-name.false

pub returns-in-End : goal.returns-in-End
returns-in-End c =
    let e = sym c.step_in.ensures.0 ∙ c.in-Ok.is ∙ ap Ok c.in-End.is in
    found_told _ _ _ (sym (c.loop-step.invariant ∙ first_end _ _ _ _ _ e))

pub returns-in_default : goal.returns-in_default
returns-in_default c =
    let e = sym c.step_in.ensures.0 ∙ c.in_default.is in
    found_told _ _ _ (sym (c.loop-step.invariant ∙ first-refused _ _ _ _ _ e))
