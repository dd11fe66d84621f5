-- `item::bytes_of` meets its contract.
use borrow.Author.Rules.{rules}
use Rattle.base_rules.specs.Round.{ceil}
use Rattle.item_rules.specs.Item.{bytes_for}
use Rattle.item.proofs.bytes_of.Goals as goal

pub returns : goal.returns
unfolding bytes_for ceil
returns c = search rules
