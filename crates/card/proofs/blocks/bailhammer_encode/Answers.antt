-- `bailhammer_encode` meets its contract: the outcome of `code_encoder::encode`, and its number. Assumes nothing.
use Rattle.card_rules.proofs.ToldLaws.{handed_on}
use Rattle.card.proofs.blocks.bailhammer_encode.Goals as goal

pub returns : goal.returns
returns c = handed_on c.encode-w.ensures c.written_number.ensures
