-- What listing a packet into a lent buffer answers; document 01, "Numbers given back", has the number.
use Rattle.std.specs.Prelude.{Result}
use Rattle.base_rules.specs.Refusal.{told}
use Rattle.base_rules.specs.declared.Refusal.{Refusal}
use Rattle.std.specs.Prelude.{List, [], ◌∷◌, ℕ, ltb, length}
use Rattle.base_rules.specs.Answer.{Answer, Outcome, settled}
use Rattle.base_rules.specs.Bytes.{splice}
use Rattle.base_rules.specs.Tests.{first}
use Rattle.lister_rules.specs.Listing.{listing_of}

-- document 01's number and the value, for each case: the bytes of the listing
unfoldable pub number_of : Result ℕ Refusal → Answer
number_of r = told (λ n. n ∷ []) r

-- document 01: what a listing of `len` bytes is refused for, with `room` bytes lent: 1 ROOM
unfoldable pub list_fault : ℕ → ℕ → ℕ
list_fault len room = first ((ltb room len, 1) ∷ [])

-- else the listing stands at the front of out
unfoldable pub list_call : List ℕ → List ℕ → Outcome
list_call packet out =
    settled (list_fault (length (listing_of packet)) (length out)) (length (listing_of packet) ∷ []) (splice out 0 (listing_of packet)) out
