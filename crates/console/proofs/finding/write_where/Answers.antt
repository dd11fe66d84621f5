-- `finding::write_where` meets its contract: the place goes on where the packet's name stops. Assumes nothing.
use Rattle.text_rules.proofs.Writing.{chain}
use Rattle.console.proofs.finding.write_where.Goals as goal

pub returns-then-placed : goal.returns-then-placed
returns-then-placed c = chain c.write_which-to.ensures c.write_place.ensures
