-- `turned` meets its contract. Assumes nothing.
use Rattle.places_rules.proofs.Records.{not_turned, turns}
use Rattle.places.proofs.record.turned.Goals as goal

pub returns-then-is_free : goal.returns-then-is_free
returns-then-is_free c = not_turned _ _ c.is_free.ensures c.if-is_free.true

pub returns : goal.returns
returns c = turns _ _ c.is_free.ensures c.if-is_free.false
