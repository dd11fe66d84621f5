-- `bailhammer_walk_open` meets its contract: the walk's refusal, then the bytes' number, else the walk. Assumes nothing.
use mathlib.Core.Path.{refl, ap, ◌∙◌}
use Rattle.item_rules.specs.declared.Repeats.{Repeats}
use Rattle.walk_rules.specs.Step.{opens}
use Rattle.card_rules.specs.Told.{refusal_in}
use Rattle.card_rules.proofs.ItemLaws.{open_refused, open_short, open_done}
use Rattle.card_rules.proofs.ToldLaws.{handed_on}
use Rattle.card.proofs.items.bailhammer_walk_open.Goals as goal

pub returns-then-n-ne0 : goal.returns-then-n-ne0
unfolding refusal_in
returns-then-n-ne0 c =
    let opened = c in
    let asked = opened in
    let a = asked.args in
    let is = opened.open_walk-w.ensures ∙ ap (λ (r : Repeats). opens r a.packet.now a.names.now) asked.repeats_of.ensures in
    handed_on
    (open_refused _ a.packet.now a.names.now a.walker.now opened.open_walk-w.result is c.if-n-ne0.true)
    refl

pub returns-then-walker-ne-WALKER : goal.returns-then-walker-ne-WALKER
unfolding refusal_in
returns-then-walker-ne-WALKER c =
    let opened = c in
    let asked = opened in
    let a = asked.args in
    let is = opened.open_walk-w.ensures ∙ ap (λ (r : Repeats). opens r a.packet.now a.names.now) asked.repeats_of.ensures in
    handed_on
    (open_short _ a.packet.now a.names.now a.walker.now opened.open_walk-w.result is c.if-n-ne0.false
    c.if-walker-ne-WALKER.true)
    refl

pub returns : goal.returns
unfolding refusal_in
returns c =
    let written = c in
    let sized = written in
    let opened = sized in
    let asked = opened in
    let a = asked.args in
    let is = opened.open_walk-w.ensures ∙ ap (λ (r : Repeats). opens r a.packet.now a.names.now) asked.repeats_of.ensures in
    handed_on
    (open_done _ a.packet.now a.names.now a.walker.now opened.open_walk-w.result is sized.if-n-ne0.false
    sized.if-walker-ne-WALKER.false
    written.write_walker.ensures)
    refl
