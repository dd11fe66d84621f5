-- `replies::value` meets its contract: the bytes go on where the label stops. Assumes nothing.
use native.Mathlib.Omega.{arith}
use Rattle.text_rules.proofs.Writing.{wrote, goes}
use Rattle.console.proofs.replies.value.Goals as goal

pub returns-then-is_empty : goal.returns-then-is_empty
returns-then-is_empty c =
    let A = c.args in
    let Plain = c.plain-to in
    let a = A in
    goes _ (wrote a.out.now a.at _ (omega arith) Plain.ensures) c.plain.ensures

pub returns : goal.returns
returns c =
    let A = c.args in
    let Plain = c.plain-to in
    let a = A in
    goes _ (wrote a.out.now a.at _ (omega arith) Plain.ensures) c.hex.ensures
