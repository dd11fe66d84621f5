-- `bailhammer_nth` meets its contract: what is told is where the occurrence is. Assumes nothing.
use native.Mathlib.Omega.{arith}
use mathlib.Core.Path.{refl, ap, ◌∙◌}
use Rattle.item_rules.specs.declared.Repeats.{Repeats}
use Rattle.tag_rules.specs.Calls.{locate_nth_call, located_number}
use Rattle.card_rules.specs.Told.{told_length}
use Rattle.card_rules.specs.Items.{found_widths}
use Rattle.card_rules.proofs.ToldLaws.{told_as}
use Rattle.card.proofs.items.bailhammer_nth.Goals as goal

pub returns : goal.returns
unfolding located_number
returns c =
    let told = c in
    let found = told in
    let asked = found in
    let a = asked.args in
    let is = found.locate_nth-l.ensures.1 ∙ ap (λ (r : Repeats). locate_nth_call r a.packet.now a.name a.number) asked.repeats_of.ensures in
    told_as found_widths a.told.now is told.tell_answer.ensures

pub tell_answer-requires : goal.tell_answer-requires
unfolding told_length
tell_answer-requires c = (omega arith, refl)
