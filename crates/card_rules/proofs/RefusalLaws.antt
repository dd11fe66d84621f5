-- No refusal has the number 13, which is given where a fragment is kept. Assumes nothing.
use mathlib.Core.Path.{◌≡◌}
use mathlib.Core.Bool.{Bool, true, false}
use mathlib.Core.List.{List, [], ◌∷◌}
use Prim.Native.Nat.{ℕ}
use native.Mathlib.Omega.{arith}
use lib.Dec.{ltb}
use Rattle.std.specs.Prelude.{Option}
use Rattle.base_rules.specs.Tests.{first}
use Rattle.base_rules.proofs.Logic.{either}
use Rattle.cut_rules.specs.declared.Address.{Address}
use Rattle.header_rules.specs.declared.Header.{Header}
use Rattle.header_rules.specs.Read.{fields_of, fault_of}
use Rattle.packed_rules.specs.Packed.{unpack_fault}
use Rattle.places_rules.specs.declared.Place.{Place}
use Rattle.places_rules.specs.declared.Table.{Table}
use Rattle.places_rules.specs.Places.{four, place_at, key_of, held_at}
use Rattle.places_rules.specs.Faults.{bad_table, place_fault}
use Rattle.receiver_rules.specs.Promise.{room_fault, held_fault, receive_fault}
use Rattle.card_rules.specs.Receiving.{short_fault}

-- not the number of a kept fragment whose packet does not agree
abbrev pub Not13 : ℕ → Type 0
Not13 n = n ≡ 13 → ⊥

last : Not13 (first [])
unfolding first
last e = omega arith

more : (b : Bool) (n : ℕ) (ts : List (Bool × ℕ)) → Not13 n → Not13 (first ts) → Not13 (first ((b, n) ∷ ts))
unfolding first
more true n ts here rest = here
more false n ts here rest = rest

-- neither the checks of a header give it,
pub header_other : (own : Option Address) (datagram : List ℕ) → Not13 (fault_of own datagram)
unfolding fault_of
header_other own datagram =
    more _ 2 _ (λ e. omega arith)
    (more _ 3 _ (λ e. omega arith)
    (more _ 4 _ (λ e. omega arith)
    (more _ 5 _ (λ e. omega arith)
    (more _ 6 _ (λ e. omega arith) (more _ 7 _ (λ e. omega arith) (more _ 8 _ (λ e. omega arith) last))))))

-- nor those of a place,
pub place_other : (p : Place) (h : Header) → Not13 (place_fault p h)
unfolding place_fault
place_other p h =
    more _ 9 _ (λ e. omega arith)
    (more _ 10 _ (λ e. omega arith) (more _ 11 _ (λ e. omega arith) (more _ 12 _ (λ e. omega arith) last)))

held_other : (t : Table) (h : Header) → Not13 (held_fault t h)
unfolding held_fault
held_other t h =
    let held : ℕ = held_at t (key_of h) in
    either (ltb held four) (λ e. rw e (place_other (place_at t held) h)) (λ e. rw e (λ z. omega arith))

-- nor those of a datagram in all,
pub receive_other : (own : Option Address) (t : Table) (lent : ℕ) (datagram : List ℕ) (room : ℕ) → Not13 (receive_fault own t lent datagram room)
unfolding receive_fault room_fault
receive_other own t lent datagram room =
    more _ _ _ (more _ 14 _ (λ e. omega arith) (more _ 1 _ (λ e. omega arith) last))
    (more _ _ _ (header_other own datagram) (more _ _ _ (held_other t (fields_of datagram)) last))

-- nor those of the bytes of a record,
pub unpack_other : (s : List ℕ) → Not13 (unpack_fault s)
unfolding unpack_fault
unpack_other s = more _ 1 _ (λ e. omega arith) (more _ 14 _ (λ e. omega arith) last)

-- nor too few bytes to tell in, which are not 0 either
pub short_other : (t : Table) → (short_fault t ≡ 0 → ⊥) × Not13 (short_fault t)
unfolding short_fault first
short_other t = (
  either (bad_table t) (λ e. rw e (λ z. omega arith)) (λ e. rw e (λ z. omega arith)),
  either (bad_table t) (λ e. rw e (λ z. omega arith)) (λ e. rw e (λ z. omega arith)),
)
