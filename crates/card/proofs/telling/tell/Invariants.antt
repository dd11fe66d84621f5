-- `tell` meets its contract: at each turn what is still to be told stands right behind what is told. Assumes nothing.
use lib.ListN.{length}
use Rattle.card_rules.proofs.TellLaws.{Telling}
use Rattle.card.proofs.telling.tell.Given as goal

abbrev pub invariant-loop-width : goal.invariant-loop-width
invariant-loop-width l = Telling l.widths l.values l.initial.told l.n l.told l.at (length l.yielded)
