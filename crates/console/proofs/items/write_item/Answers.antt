-- `items::write_item` meets its contract: the value goes on where the bits stop. Assumes nothing.
use Rattle.text_rules.proofs.Writing.{chain}
use Rattle.console.proofs.items.write_item.Goals as goal

pub returns : goal.returns
returns c = chain c.write_head-to.ensures c.value-2.ensures
