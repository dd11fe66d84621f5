-- `plan` meets its contract: 40, 20 and 22 are those of `of`, and the last two returns are the law for 41 and that of a cut. Assumes nothing.
use mathlib.Core.Path.{◌≡◌, ap, ap₂, ◌∙◌}
use native.Mathlib.Omega.{arith}
use Rattle.std.proofs.Common.{rules, Err}
use Rattle.base_rules.specs.Answer.{granted}
use Rattle.base_rules.specs.Refusal.{number, told}
use Rattle.cut_rules.specs.Plan.{number_of, plan_of}
use Rattle.cut_rules.proofs.PlanCases as cases
use Rattle.cut.proofs.plans.plan.Goals as goal

pub returns-in_err-of : goal.returns-in_err-of
unfolding number_of told
returns-in_err-of c =
    let e : c.from_residual.result ≡ Err c.in_err-of.field-0.0 = search rules in
    ap number_of e ∙ c.in_err-of.ensures.due

pub returns-then-figures-gt-MOST_F : goal.returns-then-figures-gt-MOST_F
unfolding number_of told number
returns-then-figures-gt-MOST_F c =
    let cut = c.in_ok-of.field-0 in
    let P = cut.in_bounds in
    let made = c.in_ok-of.ensures.made in
    cases.plan_41 cut.g cut.l P.0 P.1 P.2 (omega (arith, c.figures-figures.ensures.1, c.if-figures-gt-MOST_F.true))
    ∙ ap₂ plan_of made.0 made.1

pub returns : goal.returns
unfolding number_of told
returns c =
    let cut = c.in_ok-of.field-0 in
    let P = cut.in_bounds in
    let made = c.in_ok-of.ensures.made in
    ap granted c.figures-figures.ensures.0
    ∙ cases.plan_cut cut.g cut.l P.0 P.1 P.2 (omega (arith, c.figures-figures.ensures.1, c.if-figures-gt-MOST_F.false))
    ∙ ap₂ plan_of made.0 made.1
