-- The claims of specs/Claims.antt, by citation. Assumes nothing.
use mathlib.Core.List.{[], ◌∷◌}
use Prim.Native.Nat.{ℕ}
use Rattle.base_rules.proofs.Answers.{one_told}
use Rattle.lister_rules.specs.Calls.{number_of}
use Rattle.lister_rules.specs.Claims.{ListingFits, FirstBytes, OneListed}
use Rattle.lister_rules.proofs.Bound.{listing_few}
use Rattle.lister_rules.proofs.Input.{lists_as_first}

-- no listing is longer than most_listing
pub listing_fits : ListingFits
listing_fits = listing_few

-- an input is listed as its first 8,193 bytes are
pub first-bytes : FirstBytes
first-bytes = lists_as_first

-- no second answer of a listing has the same number and length
pub one_listed : OneListed
unfolding number_of
one_listed a b e = one_told (λ n. n ∷ []) (λ (n m : ℕ) q. cc) a b e
