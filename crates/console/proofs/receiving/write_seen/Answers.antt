-- `receiving::write_seen` meets its contract: it is one text. Assumes nothing.
use native.Mathlib.Omega.{arith}
use Rattle.text_rules.proofs.Writing.{wrote}
use Rattle.console.proofs.receiving.write_seen.Goals as goal

pub returns-in-Free : goal.returns-in-Free
returns-in-Free c =
    let a = c.args in
    wrote a.out.now a.at _ (omega arith) c.plain.ensures

pub returns-in-Open : goal.returns-in-Open
returns-in-Open c =
    let a = c.args in
    wrote a.out.now a.at _ (omega arith) c.labelled.ensures

pub returns-in-Delivered : goal.returns-in-Delivered
returns-in-Delivered c =
    let a = c.args in
    wrote a.out.now a.at _ (omega arith) c.labelled-in-Delivered.ensures

pub returns-in-Spoiled : goal.returns-in-Spoiled
returns-in-Spoiled c =
    let a = c.args in
    wrote a.out.now a.at _ (omega arith) c.labelled-in-Spoiled.ensures
