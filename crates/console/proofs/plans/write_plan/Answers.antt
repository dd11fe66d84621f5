use borrow.Author.Rules.{rules}
use Rattle.text_rules.proofs.Writing.{chain, goes}
use Rattle.console.proofs.plans.write_plan.Goals as goal

pub loop-name-preserved : goal.loop-name-preserved
loop-name-preserved c = goes _ c.loop-name.invariant c.labelled-at.ensures

pub returns : goal.returns
returns c = search (chain, rules)
