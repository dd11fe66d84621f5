-- `item_line` meets its contract: its pieces, one behind the other, are the line. Assumes nothing.
use mathlib.Core.Path.{ap}
use Rattle.text_rules.specs.Text.{hex_of}
use Rattle.text_rules.proofs.Laws.{lays_same, lays_more}
use Rattle.lister_rules.specs.Listing.{item_line}
use Rattle.lister.proofs.item_line.Goals as goal

pub returns : goal.returns
unfolding item_line
returns c =
    lays_more _ _ _ _ c.decimal-to.ensures
    (lays_more _ _ _ _ c.plain-to.ensures
    (lays_more _ _ _ _ (lays_same _ _ (ap hex_of c.bytes4-name.ensures) c.hex-to.ensures) c.number_line.ensures))
