-- A fragment whose header passed, by the place that holds its number: which case of the promise a branch of the code is. Assumes nothing.
use mathlib.Core.Path.{◌≡◌, sym, ap, ◌∙◌, subst}
use mathlib.Core.Bool.{Bool, true, false, cond}
use mathlib.Core.List.{List}
use Prim.Native.Nat.{ℕ, ◌≤◌, ◌<◌}
use borrow.Author.Tests.{eq-eqb, ne_eqb, lt-ltb, le-ltb}
use lib.Dec.{eqb}
use lib.ListN.{length}
use Rattle.std.specs.Prelude.{Option, None, Result, Err}
use Rattle.base_rules.specs.Refusal as refusals
use Rattle.base_rules.specs.declared.Refusal.{Refusal}
use Rattle.header_rules.specs.declared.Header.{Header}
use Rattle.header_rules.specs.Claims.{Sound}
use Rattle.places_rules.specs.declared.Place.{Place}
use Rattle.places_rules.specs.declared.Table.{Table}
use Rattle.places_rules.specs.Places.{four, place_at, key_of, held_at, open_at, displaced_at, turned, opened_by, kept_in}
use Rattle.places_rules.specs.Faults.{bad_place, bad_table, place_fault}
use Rattle.places_rules.proofs.Proved.{kept_in_range, opened_in_range}
use Rattle.receiver_rules.specs.declared.Change.{Change}
use Rattle.receiver_rules.specs.declared.Received.{Received}
use Rattle.receiver_rules.specs.Promise.{number_of, Reception, reception, refused_as, held_fault, keep_at, keep_of, SettledAfter}
use Rattle.receiver_rules.specs.inner.Arrivals.{changed, Arrives}
use Rattle.receiver_rules.proofs.Ranges.{place_fine, opens_below}

-- ---- a choice between two types

chosen : {A : Type 0} (B : Type 0) {b : Bool} → b ≡ true → A → cond b A B
chosen {A} B e x = subst (λ (v : Bool). cond v A B) (sym e) x

-- of two claims chosen by a test that is false, the second is the one to show
pub left_out : (A : Type 0) {B : Type 0} {b : Bool} → b ≡ false → B → cond b A B
left_out A {B} e x = subst (λ (v : Bool). cond v A B) (sym e) x

-- what a refusal leaves
pub refusal_is : {a : Result Received Refusal} {u t : Table} {e : Refusal} (b out : List ℕ) → (u ≡ t) × (a ≡ Err e)
    → reception a u b out ≡ refused_as (refusals.number e) t b out
unfolding reception refused_as number_of
refusal_is b out e = rw (e.0, e.1)

-- the turn changes no place
pub turned_long : (t : Table) (j : ℕ) {u : Table} → u ≡ turned t j → length t.places ≡ four → length u.places ≡ four
unfolding turned
turned_long t j is-u size = ap (λ (x : Table). length x.places) is-u ∙ size

turned_change : (t : Table) (j : ℕ) (c : Change) {u : Table} → u ≡ turned t j → changed u c ≡ changed t c
unfolding turned changed
turned_change t j c is-u = ap (λ (x : Table). changed x c) is-u

-- ---- what the place that holds it says

module _ (t : Table) (h : Header) (b payload out : List ℕ) where
  refused : {n : ℕ} {y : Reception} → n ≡ held_fault t h → (n ≡ 0 → ⊥) → y ≡ refused_as n t b out → Arrives t h b payload out y
  unfolding Arrives
  refused {n} is_n some e =
      left_out _ (ap (λ (x : ℕ). eqb x 0) (sym is_n) ∙ ne_eqb n 0 some) (e ∙ ap (λ (x : ℕ). refused_as x t b out) is_n)

  kept : {y : Reception} → 0 ≡ held_fault t h → SettledAfter (keep_of t h b payload) out y → Arrives t h b payload out y
  unfolding Arrives
  kept none s = chosen _ (eq-eqb _ 0 (sym none)) s

  module _ {i : ℕ} (is-i : i ≡ held_at t (key_of h)) where
    -- a place holds its number,
    module _ (below : i < four) {p : Place} (is-p : p ≡ place_at t i) {n : ℕ} (is_n : n ≡ place_fault p h) where
      fault_there : n ≡ held_fault t h
      unfolding held_fault
      fault_there = rw (← is-i, lt-ltb i four below, ← is-p) is_n

      keeps_there : keep_at t i p None h b payload ≡ keep_of t h b payload
      unfolding keep_of
      keeps_there = rw (← is-i, lt-ltb i four below, is-p)

      -- a refusal by the place that holds its number, with nothing changed, is what a fragment is promised
      pub arrives_refused : {y : Reception} → (n ≡ 0 → ⊥) → y ≡ refused_as n t b out → Arrives t h b payload out y
      arrives_refused some e = refused fault_there some e

      -- not refused by the place that holds its number, a fragment is kept there, displaces none, and settles
      pub arrives_there : {y : Reception} → n ≡ 0 → SettledAfter (keep_at t i p None h b payload) out y → Arrives t h b payload out y
      arrives_there none s = kept (sym none ∙ fault_there) (rw keeps_there at s)

    -- or none does
    module _ (none : four ≤ i) where
      no_fault : 0 ≡ held_fault t h
      unfolding held_fault
      no_fault = rw (← is-i, le-ltb i four none)

      keeps-new : {j : ℕ} {d : Option ℕ} {u : Table} {p : Place} → j ≡ open_at t → d ≡ displaced_at t j → u ≡ turned t j → p ≡ opened_by h
          → keep_at u j p d h b payload ≡ keep_of t h b payload
      unfolding keep_of
      keeps-new is-j is-d is-u is-p = rw (is-d, is-u, is-p, is-j, ← is-i, le-ltb i four none)

      -- a fragment whose number no place holds is kept in the place that it opens, and settles
      pub arrives_new : {j : ℕ} {d : Option ℕ} {u : Table} {p : Place} (c : Change) (b' out' : List ℕ) → j ≡ open_at t → d ≡ displaced_at t j
          → u ≡ turned t j
          → p ≡ opened_by h → SettledAfter (keep_at u j p d h b payload) out (reception c.answer (changed u c) b' out')
          → Arrives t h b payload out (reception c.answer (changed t c) b' out')
      arrives_new {j} {d} {u} {p} c b' out' is-j is-d is-u is-p s =
          kept no_fault
          (subst (λ (x : Table). SettledAfter (keep_of t h b payload) out (reception c.answer x b' out')) (turned_change t j c is-u)
          (rw (keeps-new is-j is-d is-u is-p) at s))

-- ---- the place stays in range

module _ (t : Table) (h : Header) (sound : Sound h) where
  -- the place that holds its number stays in range when it keeps the fragment
  pub there_fine : bad_table t ≡ false → {i : ℕ} → i < four → {p : Place} {n : ℕ} → p ≡ place_at t i → n ≡ place_fault p h → n ≡ 0
      → bad_place (kept_in p h) ≡ false
  there_fine fine {i} below {p} is-p is_n none = kept_in_range p h (ap bad_place is-p ∙ place_fine t fine i below) sound (sym is_n ∙ none)

  -- the place that the fragment opens is in range when it keeps it
  pub new_fine : {p : Place} → p ≡ opened_by h → bad_place (kept_in p h) ≡ false
  new_fine is-p = ap (λ (x : Place). bad_place (kept_in x h)) is-p ∙ opened_in_range h sound

  -- in a record in range the fragment opens one of the four places
  pub new_below : bad_table t ≡ false → {j : ℕ} → j ≡ open_at t → j < four
  new_below fine is-j = rw is-j (opens_below t fine)
