-- `item::marked` meets its contract, word by word.
use borrow.Author.Rules.{rules}
use Rattle.item_rules.specs.Run.{forbids}
use Rattle.item.proofs.marked.Goals as goal

pub returns-in-Forbidden : goal.returns-in-Forbidden
unfolding forbids
returns-in-Forbidden c = search rules

pub returns-in-Allowed : goal.returns-in-Allowed
unfolding forbids
returns-in-Allowed c = search rules
