-- `of` meets its contract: each refusal is the law for its number. Assumes nothing.
use mathlib.Core.Path.{sym, ◌∙◌}
use Rattle.base_rules.specs.Refusal.{number}
use Rattle.cut_rules.proofs.PlanCases as cases
use Rattle.cut.proofs.plans.Cut.of.Goals as goal

pub returns-then-not-fits-clause-due : goal.returns-then-not-fits-clause-due
unfolding number
returns-then-not-fits-clause-due c =
    let a = c.args in
    cases.plan_40 a.g a.l (sym c.fits.ensures ∙ c.if-not-fits.true)

pub returns-then-l-lt-LEAST_L-clause-due : goal.returns-then-l-lt-LEAST_L-clause-due
unfolding number
returns-then-l-lt-LEAST_L-clause-due c =
    let a = c.args in
    cases.plan_20 a.g a.l (sym c.fits.ensures ∙ c.if-not-fits.false) c.if-l-lt-LEAST_L.true

pub returns-then-l-gt-MOST_L-clause-due : goal.returns-then-l-gt-MOST_L-clause-due
unfolding number
returns-then-l-gt-MOST_L-clause-due c =
    let a = c.args in
    cases.plan_22 a.g a.l (sym c.fits.ensures ∙ c.if-not-fits.false) c.if-l-lt-LEAST_L.false c.if-l-gt-MOST_L.true
