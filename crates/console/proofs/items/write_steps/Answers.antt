use Rattle.text_rules.proofs.Writing.{chain}
use Rattle.console.proofs.items.write_steps.Goals as goal

pub returns-in_default : goal.returns-in_default
returns-in_default c =
    let Word = c.word-to in
    let L = c.loop in
    chain Word.ensures (chain L.invariant c.write_end.ensures)

pub loop-preserved : goal.loop-preserved
loop-preserved c =
    let L = c.loop in
    chain L.invariant c.write_item-to.ensures

pub returns : goal.returns
returns c = chain c.word-to.ensures c.loop.invariant
