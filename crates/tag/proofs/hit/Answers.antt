-- `tag::hit` meets its contract, case by case.
use mathlib.Core.Path.{sym, ap}
use Rattle.tag_rules.specs.Calls.{values_at}
use Rattle.tag.proofs.hit.Goals as goal

pub returns-in-Packet : goal.returns-in-Packet
unfolding values_at
returns-in-Packet c = sym (ap values_at c.in-Packet.is)

pub returns-in-Standing : goal.returns-in-Standing
unfolding values_at
returns-in-Standing c = sym (ap values_at c.in-Standing.is)
