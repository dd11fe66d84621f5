-- `items::write_end` meets its contract: it is one text, or none. Assumes nothing.
use native.Mathlib.Omega.{arith}
use Rattle.text_rules.proofs.Writing.{wrote}
use Rattle.console.proofs.items.write_end.Goals as goal

pub returns : goal.returns
returns c =
    let a = c.args in
    wrote a.out.now a.at _ (omega arith) c.labelled.ensures
