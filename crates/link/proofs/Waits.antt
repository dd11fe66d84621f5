-- A place is open while what it holds does not suffice, and closed by the fragment with which it does. Assumes nothing.
use mathlib.Core.Path.{◌≡◌, sym, ap, ◌∙◌, subst}
use mathlib.Core.Bool.{true, false}
use mathlib.Core.List.{List}
use Prim.Native.Nat.{ℕ, ◌<◌}
use native.Mathlib.Omega.{arith}
use lib.ListN.{length}
use Rattle.std.specs.Prelude.{Option}
use Rattle.places_rules.specs.declared.Place.{Place}
use Rattle.places_rules.specs.declared.Table.{Table}
use Rattle.places_rules.specs.Places.{four, open_now, delivered, spoiled, free_place, place_at, with_place, in_condition}
use Rattle.form_rules.specs.Agree.{enough_in}
use Rattle.receiver_rules.specs.Promise.{Reception, reception, closed_at, Settled, waits, delivers, damaged}
use Rattle.receiver_rules.proofs.Ranges.{written_place}
use Rattle.link.proofs.Frame.{closed_again}

-- what the place holds does not suffice while it is open, and suffices once it is delivered or spoiled
pub record Weighed (p : Place) : Type 0 where
  pub while_open : p.condition ≡ open_now → enough_in p ≡ false
  pub once_closed : (p.condition ≡ delivered → enough_in p ≡ true) × (p.condition ≡ spoiled → enough_in p ≡ true)

-- a free place is neither open nor closed
pub weighed_free : Weighed free_place
weighed_free = record { while_open = λ z. absurd (omega arith); once_closed = ((λ z. absurd (omega arith)), (λ z. absurd (omega arith))) }

weighed_closed : (p : Place) (c : ℕ) → (c ≡ open_now → ⊥) → enough_in p ≡ true → Weighed (in_condition p c)
unfolding enough_in in_condition
weighed_closed p c other e = record { while_open = λ z. absurd (other z); once_closed = ((λ z. e), (λ z. e)) }

module _ (u : Table) (j : ℕ) (p : Place) (below : j < four) (size : length u.places ≡ four) where
  weighed_again : (c : ℕ) → (c ≡ open_now → ⊥) → enough_in (place_at (with_place u j p) j) ≡ true → Weighed (place_at (closed_at (with_place u j p) j c) j)
  weighed_again c other e =
      subst Weighed (sym (ap (λ (t : Table). place_at t j) (closed_again u j p below size c) ∙ written_place u j (in_condition p c) size below))
      (weighed_closed p c other (ap enough_in (sym (written_place u j p size below)) ∙ e))

  -- an open place in which a fragment was just kept stays open just where what it holds does not suffice
  pub weighed_settled : p.condition ≡ open_now → {d : Option ℕ} {b o : List ℕ} {y : Reception}
      → Settled (with_place u j p) j d b o y → Weighed (place_at y.table j)
  unfolding reception
  weighed_settled is_open (waits e) =
      subst Weighed (sym (written_place u j p size below))
      (record {
        while_open = λ z. ap enough_in (sym (written_place u j p size below)) ∙ e;
        once_closed = ((λ z. absurd (omega arith)), (λ z. absurd (omega arith)));
      })
  weighed_settled is_open (delivers P e a) = weighed_again delivered (λ z. omega arith) e
  weighed_settled is_open (damaged e a) = weighed_again spoiled (λ z. omega arith) e
