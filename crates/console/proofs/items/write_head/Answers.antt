-- `items::write_head` meets its contract: each text goes on where the one before stops. Assumes nothing.
use Rattle.text_rules.proofs.Writing.{goes}
use Rattle.console.proofs.items.write_head.Goals as goal

pub returns : goal.returns
returns c =
    let Label = c.write_label-to in
    let Hex = c.hex-to in
    goes _ (goes _ Label.ensures Hex.ensures) c.labelled.ensures
