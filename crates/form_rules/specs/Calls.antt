-- What forming answers (document 01, "The four places" and "Numbers given back").
use Rattle.std.specs.Prelude.{◌≡◌, true, false, ◌||◌, List, [], ◌∷◌, ℕ, ltb, length, Result, Ok, Err}
use Rattle.base_rules.specs.Bounds.{most_l, place}
use Rattle.base_rules.specs.Tests.{first}
use Rattle.base_rules.specs.Answer.{Answer, answered}
use Rattle.base_rules.specs.Refusal as refusals
use Rattle.base_rules.specs.declared.Refusal.{Refusal}
use Rattle.base_rules.specs.Bytes.{splice}
use Rattle.places_rules.specs.declared.Place.{Place}
use Rattle.places_rules.specs.Faults.{bad_place}
use Rattle.form_rules.specs.Agree.{enough_in, missing_in, Agrees}
use Rattle.form_rules.specs.declared.Formed.{Formed}
use Rattle.form_rules.specs.declared.Formed.TheVariants.{Waits, Packet, Nothing}

-- what forming is refused for, with the bytes of the place and `room` bytes lent: 14 STATE, 1 ROOM
unfoldable pub form_fault : Place → ℕ → ℕ → ℕ
form_fault p held room = first ((bad_place p, 14) ∷ (ltb held place || ltb room most_l, 1) ∷ [])

-- the values of the answer: none while the place waits; the packet's length and the fragments not held; 13 DAMAGED where no packet agrees
unfoldable pub values_of : Result Formed Refusal → List ℕ
values_of (Ok Waits) = []
values_of (Ok (Packet length missing)) = length ∷ missing ∷ []
values_of (Ok Nothing) = 13 ∷ []
values_of (Err e) = []

-- document 01's number for each case
unfoldable pub number_of : Result Formed Refusal → Answer
number_of r = refusals.told (λ f. values_of (Ok f)) r

-- document 01: a packet that agrees stands at the front of out, and its answer carries its length and the count of fragments not held
pub record Handed (p : Place) (held out after : List ℕ) (length_told missing_told : ℕ) : Type 0 where
  pub packet : List ℕ
  pub agrees : Agrees p held packet
  pub told : length_told ≡ length packet
  pub missing : missing_told ≡ missing_in p
  pub written : after ≡ splice out 0 packet

-- document 01: out after forming, by the answer
abbrev pub FormAfter : Place → List ℕ → List ℕ → List ℕ → Result Formed Refusal → Type 0
FormAfter p held out after (Ok Waits) = (enough_in p ≡ false) × (after ≡ out)
FormAfter p held out after (Ok (Packet length missing)) = (enough_in p ≡ true) × Handed p held out after length missing
FormAfter p held out after (Ok Nothing) = (enough_in p ≡ true) × ((P : List ℕ) → Agrees p held P → ⊥) × (after ≡ out)
FormAfter p held out after (Err e) = after ≡ out

-- document 01: the answer r where the place p is to be formed, and what stands in out after
pub record PlaceFormed (p : Place) (held out after : List ℕ) (r : Result Formed Refusal) : Type 0 where
  pub number : number_of r ≡ answered (form_fault p (length held) (length out)) (values_of r)
  pub left : FormAfter p held out after r
