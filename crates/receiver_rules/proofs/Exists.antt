-- Some reception fits the promise of `receive`, whatever the record and the inputs: it can always be told whether a packet agrees. And it has the
-- number and values of some answer. Assumes nothing.
use mathlib.Core.Path.{◌≡◌, refl, sym, ap}
use mathlib.Core.Bool.{Bool, true, false, cond}
use mathlib.Core.List.{List, []}
use Prim.Native.Nat.{ℕ}
use lib.Dec.{eqb}
use Rattle.base_rules.specs.Refusal.{refusal_of}
use Rattle.base_rules.specs.declared.Refusal.{Refusal}
use Rattle.base_rules.proofs.Logic.{either, clash}
use Rattle.base_rules.proofs.ByFault.{named}
use Rattle.base_rules.proofs.Refusals.{named_is}
use borrow.Author.Tests.{eq-eqb}
use Rattle.std.specs.Prelude.{Option, Result, Ok, Err}
use Rattle.cut_rules.specs.declared.Address.{Address}
use Rattle.places_rules.specs.declared.Table.{Table}
use Rattle.places_rules.specs.Places.{place_at}
use Rattle.form_rules.specs.Agree.{enough_in, Agrees}
use Rattle.form_rules.proofs.Proved.{decided}
use Rattle.receiver_rules.specs.declared.Received.{Received}
use Rattle.receiver_rules.specs.declared.Received.TheVariants.{Kept, Delivered, Damaged}
use Rattle.receiver_rules.specs.Promise.{Reception, State, number_of, reception, refused_as, bytes_at, Settled, waits, delivers, damaged, SettledAfter, Step}
use Rattle.receiver_rules.specs.Claims.{due_for, kept_by}
use Rattle.receiver_rules.proofs.Named.{due_named}

-- a reception that has this property, and an answer with its number and values
abbrev pub SomeAnswer : (Reception → Type 0) → Type 0
SomeAnswer P = (y : Reception) × P y × ((a : Result Received Refusal) × (y.answer ≡ number_of a))

-- a fragment that was kept settles: not enough yet, or a packet agrees, or none does
settled_some : (t : Table) (i : ℕ) (d : Option ℕ) (b out : List ℕ) → SomeAnswer (Settled t i d b out)
unfolding reception
settled_some t i d b out = either (enough_in (place_at t i)) (λ e. pick e (decided (place_at t i) (bytes_at b i))) (λ e. (_, waits e, (Ok (Kept d), refl)))
  where
    pick : enough_in (place_at t i) ≡ true → Dec ((P : List ℕ) × Agrees (place_at t i) (bytes_at b i) P) → SomeAnswer (Settled t i d b out)
    pick e (yes a) = (_, delivers a.0 e a.1, (Ok (Delivered _ _ d), refl))
    pick e (no none) = (_, damaged e (λ P a. none (P, a)), (Ok (Damaged d), refl))

-- a refusal has the number that is due, where that stands for one
refused_some : (n : ℕ) (t : Table) (b o : List ℕ) → named n ≡ true → (n ≡ 0 → ⊥) → SomeAnswer (λ y. y ≡ refused_as n t b o)
unfolding refused_as number_of
refused_some n t b o stands some = (_, refl, (Err (refusal_of n), ap (λ (x : ℕ). (x, [])) (sym (named_is n stands some))))

-- the two cases of the promise
either_some : (test : Bool) (P Q : Reception → Type 0) → (test ≡ true → SomeAnswer P) → (test ≡ false → SomeAnswer Q) → SomeAnswer (λ y. cond test (P y) (Q y))
either_some true P Q p q = p refl
either_some false P Q p q = q refl

-- some reception fits the promise of `receive`, whatever the record and the inputs
pub reception_some : (own : Option Address) (s : State) (datagram out : List ℕ) → SomeAnswer (Step own s datagram out)
unfolding Step
reception_some own s datagram out =
    let k = kept_by s datagram in
    let n = due_for own s datagram out in
    either_some (eqb n 0) (λ y. SettledAfter k out y) _
    (λ e. settled_some k.table k.at k.displaced k.bytes out)
    (λ e. refused_some n _ _ _ (due_named own s datagram out) (λ z. clash (eq-eqb n 0 z) e))
