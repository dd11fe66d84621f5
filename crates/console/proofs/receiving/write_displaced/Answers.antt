-- `receiving::write_displaced` meets its contract: the number goes on where the label stops. Assumes nothing.
use native.Mathlib.Omega.{arith}
use Rattle.text_rules.proofs.Writing.{wrote, goes}
use Rattle.console.proofs.receiving.write_displaced.Goals as goal

pub returns-in-None : goal.returns-in-None
returns-in-None c =
    let A = c.args in
    let Plain = c.plain-to in
    let a = A in
    goes _ (wrote a.out.now a.at _ (omega arith) Plain.ensures) c.plain.ensures

pub returns-in-Some : goal.returns-in-Some
returns-in-Some c =
    let A = c.args in
    let Plain = c.plain-to in
    let a = A in
    goes _ (wrote a.out.now a.at _ (omega arith) Plain.ensures) c.decimal.ensures
