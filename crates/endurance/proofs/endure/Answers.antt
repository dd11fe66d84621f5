-- `endure` meets its contract: each case of the plan's answer is that case of the call. Assumes nothing.
use mathlib.Core.Path.{sym, ap, ◌∙◌}
use Rattle.cut_rules.specs.Plan.{number_of}
use Rattle.endurance_rules.proofs.Calls.{endured, unendured}
use Rattle.endurance.proofs.endure.Goals as goal

pub stood-most-requires : goal.stood-most-requires
stood-most-requires c = sym (ap number_of c.in-Ok.is) ∙ c.plan.ensures

pub returns-in-Ok : goal.returns-in-Ok
returns-in-Ok c =
    let known = c in
    let planned = known.plan in
    let a = known.args in
    endured a.g a.l _ (sym (ap number_of known.in-Ok.is) ∙ planned.ensures) _ _ c.stood-most.ensures.0 c.first_lost.ensures

pub returns-in-Err : goal.returns-in-Err
returns-in-Err c =
    let known = c in
    let planned = known.plan in
    let a = known.args in
    unendured a.g a.l _ _ (sym (ap number_of known.in-Err.is) ∙ planned.ensures) c.first_lost-in-Err.ensures
