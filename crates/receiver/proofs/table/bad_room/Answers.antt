-- `bad_room` meets its contract. Assumes nothing.
use mathlib.Core.Path.{◌∙◌}
use Rattle.base_rules.proofs.Logic.{other}
use Rattle.receiver_rules.proofs.Ranges.{room_other, room_told}
use Rattle.receiver.proofs.table.bad_room.Goals as goal

pub returns-then-lent-ne-ALL_PLACES : goal.returns-then-lent-ne-ALL_PLACES
returns-then-lent-ne-ALL_PLACES c = other c.if-lent-ne-ALL_PLACES.true ∙ room_other _ _ c.if-lent-ne-ALL_PLACES.true

pub returns-else-lent-ne-ALL_PLACES : goal.returns-else-lent-ne-ALL_PLACES
returns-else-lent-ne-ALL_PLACES c = room_told _ _ c.if-lent-ne-ALL_PLACES.false
