-- `is_free` meets its contract. Assumes nothing.
use Rattle.places_rules.proofs.Records.{free_by}
use Rattle.places.proofs.record.is_free.Goals as goal

pub returns : goal.returns
returns c = free_by _ _ c.place_at-p.ensures
