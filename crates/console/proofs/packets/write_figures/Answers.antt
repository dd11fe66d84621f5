-- `packets::write_figures` meets its contract: each figure goes on where the one before stops. Assumes nothing.
use Rattle.text_rules.proofs.Writing.{goes}
use Rattle.console.proofs.packets.write_figures.Goals as goal

pub returns : goal.returns
returns c =
    let Number = c.number-at in
    let Labelled = c.labelled-at in
    let Labelled2 = c.labelled-at-2 in
    goes _ (goes _ (goes _ Number.ensures Labelled.ensures) Labelled2.ensures) c.labelled.ensures
