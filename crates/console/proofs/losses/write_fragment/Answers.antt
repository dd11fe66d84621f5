-- `losses::write_fragment` meets its contract: nothing, or a label and the index. Assumes nothing.
use Rattle.text_rules.proofs.Writing.{wrote}
use Rattle.console.proofs.losses.write_fragment.Goals as goal

pub returns-then-first : goal.returns-then-first
returns-then-first c = wrote _ _ _ c.requires c.labelled.ensures

pub returns : goal.returns
returns c = wrote _ _ _ c.requires c.labelled-2.ensures
