-- `bailhammer_endure` meets its contract: the answer of crate endurance's call, its number, its figures and its set. Assumes nothing.
use mathlib.Core.Path.{ap, ◌∙◌}
use Rattle.cut_rules.specs.declared.Settings.{Settings}
use Rattle.endurance_rules.specs.Endure.{endure_call}
use Rattle.card_rules.specs.Endurance.{with_flags, endure_for, endure_widths}
use Rattle.card_rules.proofs.ToldLaws.{told_as}
use Rattle.card.proofs.losses.bailhammer_endure.Goals as goal

pub returns : goal.returns
unfolding endure_for
returns c =
    let said = c in
    let stood = said in
    let set = stood in
    let a = set.args in
    told_as endure_widths a.told.now (ap with_flags (stood.endure-e.ensures ∙ ap (λ (x : Settings). endure_call x a.l) set.settings_of.ensures))
    said.tell_endurance.ensures
