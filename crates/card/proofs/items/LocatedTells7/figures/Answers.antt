-- `figures` of a place where a name is meets its contract, case by case. Assumes nothing.
use mathlib.Core.Path.{sym, ap, ◌∙◌}
use Rattle.tag_rules.specs.Calls.{values_at}
use Rattle.card.proofs.items.LocatedTells7.figures.Goals as goal

pub returns-in-Packet : goal.returns-in-Packet
unfolding values_at
returns-in-Packet c = c.found_values.ensures ∙ sym (ap values_at c.in-Packet.is)

pub returns-in-Standing : goal.returns-in-Standing
unfolding values_at
returns-in-Standing c = c.found_values-in-Standing.ensures ∙ sym (ap values_at c.in-Standing.is)
