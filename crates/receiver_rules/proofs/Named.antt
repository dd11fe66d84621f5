-- Every number with which a datagram is refused stands for a refusal. Assumes nothing.
use mathlib.Core.Path.{◌≡◌, refl}
use mathlib.Core.Bool.{Bool, true, false, cond}
use mathlib.Core.List.{List}
use lib.ListN.{length}
use Prim.Native.Nat.{ℕ}
use Rattle.std.specs.Prelude.{Option}
use Rattle.base_rules.specs.Refusal.{number, refusal_of}
use Rattle.base_rules.proofs.ByFault.{named, all_named, first_named}
use Rattle.cut_rules.specs.declared.Address.{Address}
use Rattle.header_rules.specs.declared.Header.{Header}
use Rattle.header_rules.specs.Read.{fields_of}
use Rattle.header_rules.proofs.Numbers.{fault_named}
use Rattle.places_rules.specs.declared.Place.{Place}
use Rattle.places_rules.specs.declared.Table.{Table}
use Rattle.places_rules.specs.Faults.{place_fault}
use Rattle.receiver_rules.specs.Promise.{State, room_fault, held_fault, receive_fault}
use Rattle.receiver_rules.specs.Claims.{due_for}

room_named : (t : Table) (lent room : ℕ) → named (room_fault t lent room) ≡ true
unfolding room_fault all_named named number refusal_of
room_named t lent room = first_named _ refl

-- a place refuses with a number that stands for a refusal,
pub place_named : (p : Place) (h : Header) → named (place_fault p h) ≡ true
unfolding place_fault all_named named number refusal_of
place_named p h = first_named _ refl

-- and so does the one that holds a fragment's number, if any does
held_named : (t : Table) (h : Header) → named (held_fault t h) ≡ true
unfolding held_fault named
held_named t h = go _ _ (place_named _ h)
  where
    go : (b : Bool) (n : ℕ) → named n ≡ true → named (cond b n 0) ≡ true
    go true n e = e
    go false n e = refl

-- so the number that is due is 0 or stands for a refusal
pub due_named : (own : Option Address) (s : State) (datagram out : List ℕ) → named (due_for own s datagram out) ≡ true
unfolding receive_fault all_named
due_named own s datagram out =
    first_named _ (simp (room_named s.table (length s.bytes) (length out), fault_named own datagram, held_named s.table (fields_of datagram)))
