-- `place_at` meets its contract. Assumes nothing.
use mathlib.Core.Path.{◌≡◌}
use native.Mathlib.Omega.{arith}
use lib.ListN.{length}
use Rattle.places_rules.specs.Places.{four}
use Rattle.places_rules.proofs.Records.{place-within, place_past}
use Rattle.places.proofs.record.place_at.Goals as goal

pub returns-then-i-lt-FOUR : goal.returns-then-i-lt-FOUR
returns-then-i-lt-FOUR c =
    let A = c.args in
    let long : length A.t.places ≡ four = omega arith in
    place-within A.t A.i _ (omega (arith, long))

pub returns-else-i-lt-FOUR : goal.returns-else-i-lt-FOUR
returns-else-i-lt-FOUR c =
    let A = c.args in
    let long : length A.t.places ≡ four = omega arith in
    place_past A.t A.i (omega (arith, long)) c.free_place.ensures
