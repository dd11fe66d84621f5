-- `place_by` meets its contract, case by case. Assumes nothing.
use mathlib.Core.Path.{◌∙◌}
use Rattle.packed_rules.proofs.Unpacks.{free_first}
use Rattle.packed.proofs.reading.place_by.Goals as goal

pub returns-then-not-taken : goal.returns-then-not-taken
returns-then-not-taken c = rw c.if-not-taken.true (c.place_at.ensures ∙ free_first _ c.fresh.ensures)

pub place_from-requires : goal.place_from-requires
place_from-requires c = c.requires c.if-not-taken.false

pub returns : goal.returns
returns c = rw c.if-not-taken.false c.place_from.ensures
