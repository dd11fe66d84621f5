-- `items::write_visit` meets its contract: the name goes on where the depth stops. Assumes nothing.
use native.Mathlib.Omega.{arith}
use Rattle.text_rules.proofs.Writing.{wrote, chain}
use Rattle.console.proofs.items.write_visit.Goals as goal

pub write_head-requires : goal.write_head-requires
write_head-requires c =
    let A = c.args in
    let a = A in
    let w = wrote a.out.now a.at _ (omega arith) c.labelled-to.ensures in omega
    (arith, w.within, w.same)

pub returns : goal.returns
returns c =
    let A = c.args in
    let Labelled = c.labelled-to in
    let a = A in
    chain (wrote a.out.now a.at _ (omega arith) Labelled.ensures) c.write_head.ensures
