-- `with_place` meets its contract. Assumes nothing.
use mathlib.Core.Path.{◌≡◌, refl}
use native.Mathlib.Omega.{arith}
use lib.ListN.{length}
use Rattle.places_rules.specs.Places.{four, with_place}
use Rattle.places_rules.proofs.Records.{with_past}
use Rattle.places.proofs.record.with_place.Goals as goal

pub returns-then-i-lt-FOUR : goal.returns-then-i-lt-FOUR
unfolding with_place
returns-then-i-lt-FOUR c = refl

pub returns : goal.returns
returns c =
    let A = c.args in
    let long : length A.t.places ≡ four = omega arith in
    with_past A.t A.i A.p (omega (arith, long))
