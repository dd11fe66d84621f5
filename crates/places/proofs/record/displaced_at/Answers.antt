-- `displaced_at` meets its contract. Assumes nothing.
use Rattle.places_rules.proofs.Records.{displaces, displaces_none}
use Rattle.places.proofs.record.displaced_at.Goals as goal

pub returns-then-p-eq-OPEN : goal.returns-then-p-eq-OPEN
returns-then-p-eq-OPEN c = displaces _ _ c.place_at-p.ensures c.if-p-eq-OPEN.true

pub returns : goal.returns
returns c = displaces_none _ _ c.place_at-p.ensures c.if-p-eq-OPEN.false
