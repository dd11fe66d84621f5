use Rattle.text_rules.proofs.Writing.{chain}
use Rattle.console.proofs.receiving.write_places.Goals as goal

pub loop-seen-preserved : goal.loop-seen-preserved
loop-seen-preserved c = chain c.loop-seen.invariant c.write_seen-at.ensures

pub returns : goal.returns
returns c = chain c.word-at.ensures c.loop-seen.invariant
