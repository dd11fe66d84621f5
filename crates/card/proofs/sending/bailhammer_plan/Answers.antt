-- `bailhammer_plan` meets its contract: the answer of crate cut's call, its number and its figures. Assumes nothing.
use native.Mathlib.Omega.{arith}
use mathlib.Core.Path.{refl, ap, ◌∙◌}
use Rattle.cut_rules.specs.Plan.{plan_of, number_of}
use Rattle.cut_rules.specs.declared.Settings.{Settings}
use Rattle.card_rules.specs.Told.{told_length}
use Rattle.card_rules.specs.Sending.{twos}
use Rattle.card_rules.proofs.ToldLaws.{told_as}
use Rattle.card.proofs.sending.bailhammer_plan.Goals as goal

pub returns : goal.returns
unfolding number_of
returns c =
    let said = c in
    let planned = said in
    let set = planned in
    let a = set.args in
    told_as (twos 10) a.told.now (planned.plan-a.ensures ∙ ap (λ (x : Settings). plan_of x a.l) set.settings_of.ensures)
    said.tell_answer.ensures

pub tell_answer-requires : goal.tell_answer-requires
unfolding told_length
tell_answer-requires c = (omega arith, refl)
