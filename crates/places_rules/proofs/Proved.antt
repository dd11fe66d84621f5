-- The claims of specs/Claims.antt, each by citation. Assumes nothing.
use mathlib.Core.Path.{refl}
use Rattle.places_rules.specs.Places.{fresh_table, place_at, opened_by}
use Rattle.places_rules.specs.Faults.{bad_figures, bad_code, bad_place, bad_table}
use Rattle.places_rules.specs.Claims.{FreshInRange, KeptInRange, OpenedInRange, OpensInTurn, OpenedFresh, OpenedNext, Kept}
use Rattle.places_rules.proofs.Ranges.{range_from, range_to, belongs, range_kept, range_opened, belongs_opened}
use Rattle.places_rules.proofs.Turns.{opens, opened_fresh, opened_next, opened_kept}

-- a fresh table is in range
pub fresh_in_range : FreshInRange
unfolding bad_table fresh_table place_at bad_place bad_figures bad_code
fresh_in_range = refl

-- a place in range stays so when it keeps a sound fragment that it does not refuse
pub kept_in_range : KeptInRange
kept_in_range p h fine s fits = let r = range_from p fine in range_to _ (range_kept p h s r (belongs p h s r fits))

-- a place that a sound fragment opens is in range with that fragment kept
pub opened_in_range : OpenedInRange
opened_in_range h s = range_to _ (range_kept (opened_by h) h s (range_opened h s) (belongs_opened h))

-- after m openings the next one goes to place m mod 4
pub opens_in_turn : OpensInTurn
opens_in_turn m t r = opens m t r

-- a fresh table is one after no opening
pub fresh_is_opened : OpenedFresh
fresh_is_opened = opened_fresh

-- the next opening leaves a table after one opening more
pub next_is_opened : OpenedNext
next_is_opened m t p r some = opened_next m t p r some

-- writing a held place that stays held is no opening
pub kept_is_opened : Kept
kept_is_opened m t i p r held some = opened_kept m t i p r held some
