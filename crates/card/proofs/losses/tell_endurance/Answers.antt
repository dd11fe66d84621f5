-- `tell_endurance` meets its contract: a refusal tells nothing. Assumes nothing.
use mathlib.Core.Path.{◌≡◌, ap}
use native.Mathlib.Omega.{arith}
use lib.ListN.{length, length-map}
use Rattle.base_rules.specs.Bounds.{most_f}
use Rattle.base_rules.specs.Tests.{bit}
use Rattle.card_rules.specs.Told.{told_length}
use Rattle.card_rules.proofs.EndureLaws.{told_losses, told_nothing}
use Rattle.card.proofs.losses.tell_endurance.Goals as goal

pub tell-requires : goal.tell-requires
unfolding told_length
tell-requires c =
    let wide = c in
    let start = wide in
    let lost = start.args.e.lost in
    let long : length lost ≡ most_f = omega arith in (
      omega (arith, ap length c.figures.ensures, ap length wide.widths.ensures, long, length-map lost bit),
      ap told_length wide.widths.ensures,
    )

pub returns-in-Ok : goal.returns-in-Ok
returns-in-Ok c =
    let said = c in
    let laid = said in
    let wide = laid in
    let known = wide in
    let start = known in
    told_losses start.args.e start.args.told.now known.in-Ok.is wide.widths.ensures laid.figures.ensures said.tell.ensures

pub returns-in-Err : goal.returns-in-Err
returns-in-Err c =
    let start = c in
    rw c.refused.ensures (told_nothing start.args.e start.args.told.now c.in-Err.is)
