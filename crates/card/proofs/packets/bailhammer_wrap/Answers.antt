-- `bailhammer_wrap` meets its contract: the outcome of crate af's call, and its number. Assumes nothing.
use Rattle.card_rules.proofs.ToldLaws.{handed_on}
use Rattle.card.proofs.packets.bailhammer_wrap.Goals as goal

pub returns : goal.returns
returns c = handed_on c.wrap-w.ensures c.written_number.ensures
