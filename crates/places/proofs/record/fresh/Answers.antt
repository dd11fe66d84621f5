-- `fresh` meets its contract. Assumes nothing.
use Rattle.places_rules.specs.Places.{fresh_table}
use Rattle.places.proofs.record.fresh.Goals as goal

pub returns : goal.returns
unfolding fresh_table
returns c = rw c.free_place-p.ensures
