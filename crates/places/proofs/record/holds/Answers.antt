-- `holds` meets its contract. Assumes nothing.
use borrow.Author.Tests.{eq-eqb, ne_eqb}
use Rattle.places_rules.specs.Places.{holds, key_in}
use Rattle.places.proofs.record.holds.Goals as goal

pub returns-then-p-ne-FREE : goal.returns-then-p-ne-FREE
unfolding holds key_in
returns-then-p-ne-FREE c = rw (ne_eqb _ _ c.if-p-ne-FREE.true)

pub returns-else-p-ne-FREE : goal.returns-else-p-ne-FREE
unfolding holds key_in
returns-else-p-ne-FREE c = rw (eq-eqb _ _ c.if-p-ne-FREE.false)
