-- `bailhammer_item` meets its contract: the outcome of crate write's call, and its number. Assumes nothing.
use Rattle.card_rules.proofs.ToldLaws.{handed_on}
use Rattle.card.proofs.packets.bailhammer_item.Goals as goal

pub returns : goal.returns
returns c = handed_on c.write-w.ensures c.written_number.ensures
