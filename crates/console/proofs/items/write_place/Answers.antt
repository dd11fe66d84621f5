-- `items::write_place` meets its contract: each text goes on where the one before stops. Assumes nothing.
use native.Mathlib.Omega.{arith}
use Rattle.text_rules.proofs.Writing.{wrote, goes}
use Rattle.console.proofs.items.write_place.Goals as goal

pub returns : goal.returns
returns c =
    let a = c.args in
    let Decimal = c.decimal-to in
    let Labelled = c.labelled-to in
    goes _ (goes _ (wrote a.out.now a.at _ (omega arith) Decimal.ensures) Labelled.ensures) c.plain.ensures
