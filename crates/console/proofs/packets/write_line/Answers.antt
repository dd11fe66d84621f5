-- `packets::write_line` meets its contract: the listing goes on where the word stops. Assumes nothing.
use Rattle.text_rules.proofs.Writing.{goes}
use Rattle.console.proofs.packets.write_line.Goals as goal

pub returns : goal.returns
returns c = goes _ c.word-at.ensures c.plain.ensures
