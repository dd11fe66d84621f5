-- `item_lines` meets its contract. The invariant: what is said is laid down, and what is left of the walk says the rest; of its items fewer are
-- left at each turn. Assumes nothing.
use Rattle.lister_rules.specs.Listing.{containers}
use Rattle.lister_rules.proofs.Left.{Place, left}
use Rattle.lister.proofs.item_lines.Given as goal

abbrev pub invariant-loop-handed : goal.invariant-loop-handed
invariant-loop-handed l = Place l.payload containers l.initial.out l.at l.w l.to l.out

abbrev pub decreases-loop-handed : goal.decreases-loop-handed
decreases-loop-handed l = left l.payload containers l.w
