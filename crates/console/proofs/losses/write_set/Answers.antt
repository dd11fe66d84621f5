use borrow.Author.Rules.{rules}
use Rattle.text_rules.proofs.Writing.{chain}
use Rattle.console.proofs.losses.write_set.Goals as goal

pub loop-i-preserved : goal.loop-i-preserved
loop-i-preserved c = search (chain, rules)

pub returns : goal.returns
returns c = search (chain, rules)
