-- What `query` shows, and what it and `clear` answer. Assumes nothing.
use mathlib.Core.Path.{◌≡◌, refl, sym, ap, ◌∙◌}
use mathlib.Core.Bool.{false}
use mathlib.Core.List.{[], ◌∷◌}
use Prim.Native.Nat.{ℕ, ◌≤◌}
use native.Mathlib.Omega.{arith}
use borrow.Author.Tests.{eq-eqb, ne_eqb}
use Rattle.base_rules.specs.Answer.{Answer}
use Rattle.base_rules.specs.Bounds.{most_l}
use Rattle.base_rules.specs.Written.{number_of}
use Rattle.std.specs.Prelude.{Result, Ok, Err}
use Rattle.base_rules.specs.Refusal as refusals
use Rattle.base_rules.specs.declared.Refusal.{Refusal}
use Rattle.base_rules.proofs.Answers.{grants, refuses, number-positive, written_by}
use Rattle.places_rules.specs.declared.Place.{Place}
use Rattle.places_rules.specs.declared.Table.{Table}
use Rattle.places_rules.specs.Places.{free, open_now, delivered, spoiled, fresh_table, place_at, key_in}
use Rattle.places_rules.specs.Faults.{bad_place}
use Rattle.places_rules.proofs.Ranges.{range_from}
use Rattle.receiver_rules.specs.Promise.{room_fault}
use Rattle.receiver_rules.specs.Calls.{shown_of, seen_values, query_call, queried_number, clear_call}
use Rattle.receiver_rules.specs.declared.Seen.TheVariants as seen
use Rattle.receiver_rules.specs.declared.Shown.{Shown}

-- ---- one place

module _ (p : Place) where
  -- a free place is shown as free, without a number
  pub shows_free : p.condition ≡ free → seen_values seen.Free ≡ shown_of p
  unfolding seen_values shown_of
  shows_free e = rw (eq-eqb p.condition free e)

  -- any other condition is shown with the number
  shows_held : (n : ℕ) → (p.condition ≡ free → ⊥) → p.condition ≡ n → n ∷ p.number ∷ [] ≡ shown_of p
  unfolding shown_of key_in
  shows_held n some e = rw (ne_eqb p.condition free some, e)

  -- an open place is shown as open, with its number
  pub shows_open : (p.condition ≡ free → ⊥) → p.condition ≡ open_now → seen_values (seen.Open p.number) ≡ shown_of p
  unfolding seen_values
  shows_open some e = shows_held open_now some e

  -- a delivered place is shown as delivered, with its number
  pub shows_delivered : (p.condition ≡ free → ⊥) → p.condition ≡ delivered → seen_values (seen.Delivered p.number) ≡ shown_of p
  unfolding seen_values
  shows_delivered some e = shows_held delivered some e

  -- a place in range in none of these conditions is shown as spoiled, with its number
  pub shows_spoiled : bad_place p ≡ false → (p.condition ≡ free → ⊥) → (p.condition ≡ open_now → ⊥) → (p.condition ≡ delivered → ⊥)
      → seen_values (seen.Spoiled p.number) ≡ shown_of p
  unfolding seen_values
  shows_spoiled fine some closed held = shows_held spoiled some (left p.condition (range_from p fine).condition some closed held)
    where
      left : (x : ℕ) → x ≤ spoiled → (x ≡ free → ⊥) → (x ≡ open_now → ⊥) → (x ≡ delivered → ⊥) → x ≡ spoiled
      left x a b c d = omega arith

-- ---- all four, and clearing

module _ (t : Table) (lent : ℕ) {r : Result (Unit {0}) Refusal} (is_r : refusals.fault_in r ≡ room_fault t lent most_l) where
  -- a query is refused with 14 or 1 where one is due
  pub query_refused : {e : Refusal} → r ≡ Err e → queried_number (Err e) ≡ query_call t lent
  unfolding queried_number query_call refusals.told refusals.fault_in
  query_refused {e} is = refuses (refusals.number e) _ _ (number-positive e) (sym (ap refusals.fault_in is) ∙ is_r)

  -- where neither is due, a query shows each of the four places
  pub query_shown : r ≡ Ok tt → (s : Shown) → seen_values s.first ≡ shown_of (place_at t 0) → seen_values s.second ≡ shown_of (place_at t 1)
      → seen_values s.third ≡ shown_of (place_at t 2) → seen_values s.fourth ≡ shown_of (place_at t 3)
      → queried_number (Ok s) ≡ query_call t lent
  unfolding queried_number query_call refusals.told refusals.fault_in
  query_shown is s e₀ e₁ e₂ e₃ = rw (e₀, e₁, e₂, e₃) (grants _ _ (sym (ap refusals.fault_in is) ∙ is_r))

  -- a clearing is refused with 14 or 1 where one is due, and leaves the record
  pub clear_refused : {e : Refusal} → r ≡ Err e → (number_of r, t) ≡ clear_call t lent
  unfolding clear_call refusals.fault_in
  clear_refused {e} is =
      let some = ne_eqb (refusals.fault_in r) 0 (λ z. omega (arith, number-positive e, sym (ap refusals.fault_in is) ∙ z)) in
      rw (← is_r, some) (ap (λ (a : Answer). (a, t)) (written_by r (refusals.fault_in r) refl))

  -- where neither is due, a clearing leaves a fresh table
  pub clear_done : r ≡ Ok tt → {u : Table} → u ≡ fresh_table → (number_of r, u) ≡ clear_call t lent
  unfolding clear_call refusals.fault_in
  clear_done is e =
      let none = eq-eqb (refusals.fault_in r) 0 (ap refusals.fault_in is) in
      rw (← is_r, none, e) (ap (λ (a : Answer). (a, fresh_table)) (written_by r (refusals.fault_in r) refl))
