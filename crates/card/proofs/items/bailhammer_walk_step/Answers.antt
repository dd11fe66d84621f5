-- `bailhammer_walk_step` meets its contract: a refusal leaves the walk's bytes. Assumes nothing.
use mathlib.Core.Path.{ap, ◌∙◌}
use native.Mathlib.Omega.{arith}
use Rattle.walk_rules.specs.Step.{walk_step}
use Rattle.card_rules.specs.Told.{told_length}
use Rattle.card_rules.proofs.ItemLaws.{step_short, step_untold, step_on, step-not}
use Rattle.card.proofs.items.bailhammer_walk_step.Goals as goal

pub returns-then-walker-ne-WALKER : goal.returns-then-walker-ne-WALKER
returns-then-walker-ne-WALKER c =
    let a = c.args in
    step_short a.packet.now a.names.now a.walker.now a.told.now c.if-walker-ne-WALKER.true

pub returns-then-told-lt-TOLD_STEP : goal.returns-then-told-lt-TOLD_STEP
unfolding told_length
returns-then-told-lt-TOLD_STEP c =
    let a = c.args in
    step_untold a.packet.now a.names.now a.walker.now a.told.now (omega arith)

pub returns-then-n-eq0 : goal.returns-then-n-eq0
unfolding told_length
returns-then-n-eq0 c =
    let written = c in
    let tested = written in
    let told = tested in
    let stepped = told in
    let read = stepped in
    let fits = read in
    let sized = fits in
    let a = sized.args in
    step_on a.packet.now a.names.now a.walker.now a.told.now stepped.walk_step-x.result sized.if-walker-ne-WALKER.false
    (omega (arith, fits.if-told-lt-TOLD_STEP.false))
    (stepped.walk_step-x.ensures.0 ∙ ap (walk_step a.packet.now a.names.now) read.walker_from-w.ensures)
    told.tell_step-n.ensures
    tested.if-n-eq0.true
    written.write_walker.ensures

pub returns-else-n-eq0 : goal.returns-else-n-eq0
unfolding told_length
returns-else-n-eq0 c =
    let told = c in
    let stepped = told in
    let read = stepped in
    let fits = read in
    let sized = fits in
    let a = sized.args in
    step-not a.packet.now a.names.now a.walker.now a.told.now stepped.walk_step-x.result sized.if-walker-ne-WALKER.false
    (omega (arith, fits.if-told-lt-TOLD_STEP.false))
    (stepped.walk_step-x.ensures.0 ∙ ap (walk_step a.packet.now a.names.now) read.walker_from-w.ensures)
    told.tell_step-n.ensures
    c.if-n-eq0.false
