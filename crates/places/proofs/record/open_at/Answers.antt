-- `open_at` meets its contract. Assumes nothing.
use Rattle.std.proofs.Common.{rules, tests}
use mathlib.Core.Path.{◌≡◌, ap, ◌∙◌}
use mathlib.Core.Bool.{Bool}
use Prim.Native.Nat.{ℕ}
use native.Mathlib.Omega.{arith}
use lib.Dec.{eqb}
use lib.ListN.{length}
use Rattle.std.specs.Prelude.{Option}
use Rattle.std.specs.Option.{unwrap_or}
use Rattle.std.proofs.lemmas.Iterator.{YieldsList-from_slice}
use Rattle.std.proofs.lemmas.Iterator.Search.{position_from_yields_List}
use Rattle.std.proofs.lemmas.Iterator.Adapters.{position_from-zero}
use Rattle.places_rules.specs.declared.Place.{Place}
use Rattle.places_rules.specs.Places.{four, free, open_at}
use Rattle.places.proofs.Fours.{first_found}
use Rattle.places.proofs.record.open_at.Goals as goal

pub returns : goal.returns
unfolding open_at
returns c =
    let A = c.args in
    let test : Place → Bool = λ (p : Place). eqb p.condition free in
    let long : length A.t.places ≡ four = omega arith in
    c.unwrap_or.ensures
    ∙ ap (λ (r : Option ℕ). unwrap_or r A.t.oldest)
    (position_from_yields_List test _ _ c.position.result c.position.ensures.ran (YieldsList-from_slice A.t.places cc) (λ x b q k. search (rules, tests))
    ∙ position_from-zero test A.t.places)
    ∙ first_found test A.t A.t.oldest long
