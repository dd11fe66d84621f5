-- What the parts of the receiver are handed.
use Rattle.std.specs.Prelude.{◌≡◌, cond, List, ℕ, ◌≤◌, eqb, length}
use Rattle.base_rules.specs.Bounds.{most_l}
use Rattle.header_rules.specs.declared.Header.{Header}
use Rattle.header_rules.specs.Claims.{Sound}
use Rattle.places_rules.specs.declared.Table.{Table}
use Rattle.places_rules.specs.Places.{with_place, all_places}
use Rattle.receiver_rules.specs.declared.Change.{Change}
use Rattle.receiver_rules.specs.Promise.{Reception, refused_as, held_fault, keep_of, SettledAfter}

-- document 01, 1 ROOM: the lent bytes and the packet buffer have their sizes
pub record Lent (b out : List ℕ) : Type 0 where
  pub all : length b ≡ all_places
  pub room : most_l ≤ length out

-- document 01, 2 to 8: a header that passed them, with its payload
pub record Heard (h : Header) (payload : List ℕ) : Type 0 where
  pub sound : Sound h
  pub size : length payload ≡ h.plen

-- document 01, "The four places": the record after a change, which is another place in it, and which is displaced next
unfoldable pub changed : Table → Change → Table
changed t c = with_place (record { places = t.places; oldest = c.oldest }) c.at c.place

-- document 01, 9 to 12, and what comes after them: what a fragment whose header passed leaves
unfoldable pub Arrives : Table → Header → List ℕ → List ℕ → List ℕ → Reception → Type 0
Arrives t h b payload out y =
    cond (eqb (held_fault t h) 0) (SettledAfter (keep_of t h b payload) out y) (y ≡ refused_as (held_fault t h) t b out)
