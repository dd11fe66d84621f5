-- After a fragment was kept in a place: what forming answered is how the place settles. Assumes nothing.
use mathlib.Core.Path.{◌≡◌, sym, ap, ◌∙◌, subst}
use mathlib.Core.Bool.{false}
use mathlib.Core.List.{List, []}
use Prim.Native.Nat.{ℕ, ◌-◌, ◌*◌, ◌<◌}
use native.Mathlib.Omega.{arith}
use borrow.Author.Tests.{le-ltb}
use lib.ListN.{length, take, drop, length-drop}
use lib.Seq.{take_all, set-set}
use Rattle.base_rules.specs.Bounds.{most_l, place}
use Rattle.base_rules.specs.Answer.{granted, refused}
use Rattle.std.specs.Prelude.{Option, Result, Ok, Err}
use Rattle.base_rules.specs.Refusal as refusals
use Rattle.base_rules.specs.declared.Refusal.{Refusal}
use Rattle.base_rules.proofs.Answers.{grants}
use Rattle.base_rules.proofs.Firsts.{skip, none_due}
use Rattle.places_rules.specs.declared.Place.{Place}
use Rattle.places_rules.specs.declared.Table.{Table}
use Rattle.places_rules.specs.Places.{four, delivered, spoiled, place_at, with_place, in_condition}
use Rattle.places_rules.specs.Faults.{bad_place}
use Rattle.places_rules.proofs.Records.{with_past}
use Rattle.form_rules.specs.Calls.{form_fault, number_of, values_of, PlaceFormed}
use Rattle.form_rules.specs.declared.Formed.{Formed}
use Rattle.form_rules.specs.declared.Formed.TheVariants.{Waits, Packet, Nothing}
use Rattle.receiver_rules.specs.declared.Change.{Change}
use Rattle.receiver_rules.specs.declared.Received.TheVariants as received
use Rattle.receiver_rules.specs.Promise.{reception, closed_at, bytes_at, Settled, waits, delivers, damaged}
use Rattle.receiver_rules.specs.inner.Arrivals.{Lent, changed}
use Rattle.receiver_rules.proofs.Ranges.{written_place}

-- a change that leaves which is displaced next
pub changes : (t : Table) (c : Change) → t.oldest ≡ c.oldest → changed t c ≡ with_place t c.at c.place
unfolding changed
changes t c e = ap (λ (o : ℕ). with_place (record { places = t.places; oldest = o }) c.at c.place) (sym e)

-- and one past the fourth place changes nothing
pub unchanged : (t : Table) (c : Change) → length t.places ≡ four → c.at ≡ four → t.oldest ≡ c.oldest → changed t c ≡ t
unchanged t c size past e = changes t c e ∙ sym (with_past t c.at c.place (omega (arith, size, past)))

-- a place that is written twice
again : (t : Table) (i : ℕ) (p q : Place) → with_place (with_place t i p) i q ≡ with_place t i q
unfolding with_place
again t i p q = ap (λ (l : List Place). record { places = l; oldest = t.oldest }) (set-set t.places i p q)

-- a place in another condition
pub closes : (t : Table) (i condition : ℕ) (p : Place) → length t.places ≡ four → i < four → {q : Place} → q ≡ in_condition p condition
    → with_place t i q ≡ closed_at (with_place t i p) i condition
unfolding closed_at
closes t i condition p size below is-q =
    ap (with_place t i) (is-q ∙ ap (λ (x : Place). in_condition x condition) (sym (written_place t i p size below))) ∙ sym (again t i p _)

-- the rest of a list from a on, as a part is lent
pub rest_part : (a : ℕ) (l : List ℕ) → take (length l - a) (drop a l) ≡ drop a l
rest_part a l = take_all (length l - a) (drop a l) (omega (arith, length-drop a l))

-- what was formed of a place's bytes, by the table
pub formed_at : (t : Table) (i : ℕ) (b out : List ℕ) {p : Place} {after : List ℕ} {r q : Result Formed Refusal} → p ≡ place_at t i → r ≡ q
    → PlaceFormed p (take (length b - i * place) (drop (i * place) b)) out after r → PlaceFormed (place_at t i) (bytes_at b i) out after q
unfolding bytes_at
formed_at t i b out {p} {after} {r} {q} is-p is-r f =
    subst (λ (x : Place). PlaceFormed x (drop (i * place) b) out after q) is-p
    (subst (λ (x : List ℕ). PlaceFormed p x out after q) (rest_part (i * place) b)
    (subst (λ (x : Result Formed Refusal). PlaceFormed p (take (length b - i * place) (drop (i * place) b)) out after x) is-r f))

-- ---- how it settles

module _ (t : Table) (i : ℕ) (d : Option ℕ) (b out : List ℕ) {after : List ℕ} where
  module _ {u : Table} where
    -- where forming still waits, the fragment is answered as kept and the record stays
    pub settles_waiting : PlaceFormed (place_at t i) (bytes_at b i) out after (Ok Waits) → u ≡ t → Settled t i d b out (reception (Ok (received.Kept d)) u b after)
    settles_waiting f is-u = rw (is-u, f.left.1) (waits f.left.0)

    -- where forming gave a packet, it is delivered and the place becomes delivered
    pub settles_delivered : {n m : ℕ} → PlaceFormed (place_at t i) (bytes_at b i) out after (Ok (Packet n m)) → u ≡ closed_at t i delivered
        → Settled t i d b out (reception (Ok (received.Delivered n m d)) u b after)
    settles_delivered f is-u =
        let h = f.left.1 in rw (h.told, h.missing, is-u, h.written) (delivers h.packet f.left.0 h.agrees)

    -- where forming found no packet that agrees, the answer is 13 and the place becomes spoiled
    pub settles_damaged : PlaceFormed (place_at t i) (bytes_at b i) out after (Ok Nothing) → u ≡ closed_at t i spoiled
        → Settled t i d b out (reception (Ok (received.Damaged d)) u b after)
    settles_damaged f is-u = rw (is-u, f.left.2) (damaged f.left.0 f.left.1)

-- ---- forming is not refused

module _ (t : Table) (i : ℕ) (b out : List ℕ) (below : i < four) (lent : Lent b out) (fine : bad_place (place_at t i) ≡ false) where
  no_fault : 0 ≡ form_fault (place_at t i) (length (bytes_at b i)) (length out)
  unfolding form_fault bytes_at
  no_fault =
      skip 14 _ fine
      (skip 1 _
      (rw (le-ltb (length (drop (i * place) b)) place (omega (arith, length-drop (i * place) b, lent.all)), le-ltb (length out) most_l lent.room))
      none_due)

  -- forming one of the four places, in range and with the right room lent, is never refused
  pub never-refused : {after : List ℕ} {e : Refusal} → PlaceFormed (place_at t i) (bytes_at b i) out after (Err e) → ⊥
  unfolding number_of values_of refusals.told
  never-refused {after} {e} f =
      let told : refused (refusals.number e) ≡ granted [] = f.number ∙ sym (grants _ [] no_fault) in
      let z : ◌≡◌ {A = ℕ} 0 1 = cc in
      omega arith
