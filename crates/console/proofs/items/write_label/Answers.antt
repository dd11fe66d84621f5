-- `items::write_label` meets its contract: the place goes on where the label stops. Assumes nothing.
use native.Mathlib.Omega.{arith}
use Rattle.text_rules.proofs.Writing.{wrote, chain}
use Rattle.console.proofs.items.write_label.Goals as goal

pub write_place-requires : goal.write_place-requires
write_place-requires c =
    let a = c.args in
    let w = wrote a.out.now a.at _ (omega arith) c.plain-to.ensures in
    omega (arith, w.within, w.same)

pub returns-then-placed : goal.returns-then-placed
returns-then-placed c =
    let a = c.args in
    let Plain = c.plain-to in
    chain (wrote a.out.now a.at _ (omega arith) Plain.ensures) c.write_place.ensures

pub returns : goal.returns
returns c =
    let a = c.args in
    wrote a.out.now a.at _ (omega arith) c.plain-to.ensures
