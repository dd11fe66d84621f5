-- What is claimed of forming (document 01, "The four places"): the proofs are in proofs/Proved.antt.
use Rattle.std.specs.Prelude.{◌≡◌, true, List, ℕ, ◌≤◌, Result}
use Rattle.base_rules.specs.Bounds.{most_k}
use Rattle.base_rules.specs.declared.Refusal.{Refusal}
use Rattle.places_rules.specs.declared.Place.{Place}
use Rattle.form_rules.specs.Agree.{enough_in, Agrees}
use Rattle.form_rules.specs.Calls.{PlaceFormed}
use Rattle.form_rules.specs.declared.Formed.{Formed}

-- document 01, "What a promise has to say here": where the fragments held suffice, at most one packet agrees
abbrev pub OnePacket : Type 0
OnePacket =
    (p : Place) (held P Q : List ℕ) → (p.fec ≡ true → p.rsk ≤ most_k) → enough_in p ≡ true → Agrees p held P → Agrees p held Q → P ≡ Q

-- so no second answer of forming fits, and no second buffer
abbrev pub OneFormed : Type 0
OneFormed =
    (p : Place) (held out v w : List ℕ) (r q : Result Formed Refusal) → PlaceFormed p held out v r → PlaceFormed p held out w q → (r ≡ q) × (v ≡ w)

-- document 01, "If no such packet exists": whether one exists can always be told, so that forming asks nothing impossible
abbrev pub Decided : Type 0
Decided = (p : Place) (held : List ℕ) → Dec ((P : List ℕ) × Agrees p held P)
