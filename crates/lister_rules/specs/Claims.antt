-- What holds of every listing and of the call's answer, as claims: the proofs are in proofs/Proved.antt.
use Rattle.std.specs.Prelude.{Result}
use Rattle.base_rules.specs.declared.Refusal.{Refusal}
use Rattle.std.specs.Prelude.{List, ◌≡◌, ℕ, ◌≤◌, length, take}
use Rattle.base_rules.specs.Bytes.{Bytes}
use Rattle.lister_rules.specs.Listing.{listing_of, most_listing, most_input}
use Rattle.lister_rules.specs.Calls.{number_of}

-- document 01: no listing is longer than a buffer of most_listing bytes, whatever the input is
abbrev pub ListingFits : Type 0
ListingFits = (s : List ℕ) → Bytes s → length (listing_of s) ≤ most_listing

-- document 01, "AF packet 12 to 8,192 bytes": an input is listed as its first 8,193 bytes are, so no more have to be read
abbrev pub FirstBytes : Type 0
FirstBytes = (s : List ℕ) → listing_of (take most_input s) ≡ listing_of s

-- no second answer fits: document 01's number and the length tell which answer was given
abbrev pub OneListed : Type 0
OneListed = (a b : Result ℕ Refusal) → number_of a ≡ number_of b → a ≡ b
