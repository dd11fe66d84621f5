-- The claims of specs/Claims.antt, each by citation.
use Rattle.walk_rules.specs.Claims.{InOrder, OneHanded, WalkInside, StepInside, NoNames, ValueAsPacket, ValueWalked, AsItWas, NoTwice, AcceptedStill}
use Rattle.walk_rules.specs.Claims.{InARow}
use Rattle.walk_rules.proofs.Order.{ordered}
use Rattle.walk_rules.proofs.HandedNumbers.{number_tells}
use Rattle.walk_rules.proofs.Inside as inside
use Rattle.walk_rules.proofs.NoContainers as without
use Rattle.walk_rules.proofs.Values as values
use Rattle.walk_rules.proofs.ValueWalks as walks
use Rattle.walk_rules.proofs.Repeated as repeated
use Rattle.walk_rules.proofs.Rows as rows

-- the step walk hands out what the recursive walk does: its items in order and its end, or its refusal
pub in_order : InOrder
in_order = ordered

pub one_handed : OneHanded
one_handed = number_tells

-- each item that a walk comes to lies in the packet,
pub walk_inside : WalkInside
walk_inside = inside.walk_inside

-- and each that a step hands out
pub step_inside : StepInside
step_inside = inside.step_inside

-- with no container names a walk is the packet's run, and has the check's number
pub no_names : NoNames
no_names = without.no_names

-- the items inside a container are those of its value read as a packet of its own, each with its place moved,
pub value_as_packet : ValueAsPacket
value_as_packet = values.value_as_packet

-- and so it is of all that the containers among them hold
pub value_walked : ValueWalked
value_walked = walks.value_walked

-- where repeats are forbidden a walk goes on as it did
pub as_it_was : AsItWas
as_it_was = repeated.as_it_was

-- where names may repeat, no walk is refused with 31,
pub no_twice : NoTwice
no_twice = repeated.no_twice

-- and nothing else changes
pub accepted_still : AcceptedStill
accepted_still = repeated.accepted_still

-- the items of a walk that is not refused follow each other without a gap
pub in_a_row : InARow
in_a_row = rows.in_a_row
