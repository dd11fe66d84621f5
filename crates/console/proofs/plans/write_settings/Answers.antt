-- `plans::write_settings` meets its contract: each word goes on where the one before stops. Assumes nothing.
use Rattle.text_rules.proofs.Writing.{goes}
use Rattle.console.proofs.plans.write_settings.Goals as goal

pub returns : goal.returns
returns c =
    let Number = c.number-at in
    let First = c.labelled-at in
    let Second = c.labelled-at-2 in
    goes _ (goes _ (goes _ Number.ensures First.ensures) Second.ensures) c.write_address.ensures
