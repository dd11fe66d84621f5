use Rattle.text_rules.proofs.Writing.{chain, goes}
use Rattle.console.proofs.items.write_visits.Goals as goal

pub returns-in-Ok-End : goal.returns-in-Ok-End
returns-in-Ok-End c =
    let Word = c.word-to in
    let L = c.loop in
    chain Word.ensures (goes _ L.invariant c.labelled.ensures)

pub returns-in-Err : goal.returns-in-Err
returns-in-Err c = chain c.word-to.ensures c.loop.invariant

pub loop-preserved : goal.loop-preserved
loop-preserved c =
    let L = c.loop in
    chain L.invariant c.write_visit-to.ensures

pub returns : goal.returns
returns c = chain c.word-to.ensures c.loop.invariant
