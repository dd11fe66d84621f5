-- `tell_step` meets its contract, case by case: a refusal tells nothing. Assumes nothing.
use Rattle.std.specs.Prelude.{Ok}
use mathlib.Core.Path.{refl, ap, ◌∙◌}
use Rattle.card_rules.specs.Told.{told_length}
use Rattle.card_rules.specs.Items.{step_widths, stepped_number}
use Rattle.card_rules.proofs.ToldLaws.{told_granted, told_refused}
use Rattle.card.proofs.items.tell_step.Goals as goal

pub tell-requires : goal.tell-requires
unfolding told_length
tell-requires c = (refl, refl)

pub tell-requires-in-End : goal.tell-requires-in-End
unfolding told_length
tell-requires-in-End c = (refl, refl)

pub returns-in-Item : goal.returns-in-Item
unfolding stepped_number
returns-in-Item c =
    let said = c in
    let known = said in
    told_granted step_widths _ known.args.told.now (ap stepped_number (known.in-Ok.is ∙ ap Ok known.in-Item.is)) refl said.tell.ensures

pub returns-in-End : goal.returns-in-End
unfolding stepped_number
returns-in-End c =
    let said = c in
    let known = said in
    told_granted step_widths _ known.args.told.now (ap stepped_number (known.in-Ok.is ∙ ap Ok known.in-End.is)) refl said.tell-in-End.ensures

pub returns-in-Err : goal.returns-in-Err
unfolding stepped_number
returns-in-Err c = told_refused step_widths c.args.told.now (ap stepped_number c.in-Err.is)
