-- Whose packet's fragments a place holds: what leaves that as it is. Assumes nothing.
use mathlib.Core.Path.{◌≡◌, refl}
use Prim.Native.Nat.{ℕ}
use Rattle.header_rules.specs.declared.Header.{Header}
use Rattle.places_rules.specs.declared.Place.{Place}
use Rattle.places_rules.specs.Places.{key_of, key_in, opened_by, kept_in, in_condition}

-- a place that a fragment opens is of the fragment's packet
pub key_opened : (h : Header) → key_in (opened_by h) ≡ key_of h
unfolding key_in key_of opened_by
key_opened h = refl

-- a kept fragment leaves whose a place is,
pub key-kept : (p : Place) (h : Header) → key_in (kept_in p h) ≡ key_in p
unfolding key_in kept_in
key-kept p h = refl

-- and so does another condition
pub key-closed : (p : Place) (condition : ℕ) → key_in (in_condition p condition) ≡ key_in p
unfolding key_in in_condition
key-closed p condition = refl
