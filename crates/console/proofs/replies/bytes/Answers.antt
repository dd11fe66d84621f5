-- `replies::bytes` meets its contract: the bytes go on where the name stops. Assumes nothing.
use native.Mathlib.Omega.{arith}
use Rattle.text_rules.specs.Text.{hex_of}
use Rattle.text_rules.proofs.Laws.{lays_more}
use Rattle.text_rules.proofs.Writing.{wrote}
use Rattle.console.proofs.replies.bytes.Goals as goal

pub returns : goal.returns
returns c =
    let A = c.args in
    let Plain = c.plain-at in
    let a = A in
    wrote a.out.now 0 _ (omega arith) (lays_more a.out.now 0 a.name.now (hex_of a.raw.now) Plain.ensures
    c.hex.ensures)
