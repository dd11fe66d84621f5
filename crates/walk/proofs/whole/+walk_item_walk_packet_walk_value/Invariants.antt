-- `walk::whole::{walk_packet, walk_item, walk_value}` meet their contracts: one cycle of calls, in which the bytes left fall, an item's with its head.
use Rattle.std.proofs.Common.{◌≤◌, ◌+◌, ◌-◌}
use Rattle.item_rules.specs.Item.{head}
use Rattle.walk_rules.specs.Names.{deepest, names_of}
use Rattle.walk_rules.proofs.Refusals.{WalkSeen}
use Rattle.walk.proofs.whole.+walk_item_walk_packet_walk_value.Given as goal

abbrev pub decreases-walk_item : goal.decreases-walk_item
decreases-walk_item l = head + l.i.len.0

abbrev pub decreases-walk_packet : goal.decreases-walk_packet
decreases-walk_packet l = (l.end - l.from) + 1

abbrev pub decreases-walk_value : goal.decreases-walk_value
decreases-walk_value l = l.i.len.0 + 2

abbrev pub invariant-walk_packet-loop-step : goal.invariant-walk_packet-loop-step
invariant-walk_packet-loop-step l = (l.from ≤ l.at)
    × WalkSeen l.repeats (deepest + 1 - l.depth) l.s (names_of l.names) l.depth l.from l.end l.marks l.at

abbrev pub decreases-walk_packet-loop-step : goal.decreases-walk_packet-loop-step
decreases-walk_packet-loop-step l = l.end - l.at
