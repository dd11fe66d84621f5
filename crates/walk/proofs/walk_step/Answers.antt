-- `walk::walk_step` meets its contract.
use native.Mathlib.Omega.{arith}
use mathlib.Core.Path.{sym, ap, ◌∙◌}
use Prim.Native.Nat.{ℕ}
use Rattle.std.specs.Prelude.{Err}
use Rattle.base_rules.specs.Refusal.{fault_in}
use Rattle.base_rules.proofs.Answers.{number-positive}
use Rattle.walk_rules.proofs.StepCases.{stays, list_stays, steps_on}
use Rattle.walk_rules.proofs.StepNumbers.{walk_told}
use Rattle.walk.proofs.walk_step.Goals as goal

pub returns-then-refusal-ne0 : goal.returns-then-refusal-ne0
returns-then-refusal-ne0 c =
    let w = c.args.w in
    walk_told _ _ w _ (sym (stays _ _ w (λ z. omega (arith, z, c.if-refusal-ne0.true))))

pub returns-in-Err : goal.returns-in-Err
unfolding fault_in
returns-in-Err c =
    let w = c.args.w in
    let fault = sym (ap fault_in c.in-Err.is) ∙ c.fault.ensures in
    let some = number-positive c.in-Err.e in
    walk_told _ _ w _ (ap (λ (n : ℕ). record { handed = Err n; next = w }) (c.from.ensures ∙ fault)
    ∙ sym (list_stays _ _ w (omega (arith, c.if-refusal-ne0.false)) (λ z. omega (arith, z, fault, some))))

pub returns : goal.returns
unfolding fault_in
returns c =
    let fault = sym (ap fault_in c.in_default.is) ∙ c.fault.ensures in
    walk_told _ _ _ _ (c.step_from.ensures
    ∙ sym (steps_on _ _ c.args.w
    (omega (arith, c.if-refusal-ne0.false)) (sym fault)))
