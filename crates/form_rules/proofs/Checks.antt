-- What forming is refused for, and the AF checks by what was answered. Assumes nothing.
use mathlib.Core.Path.{◌≡◌, sym, ap, ◌∙◌}
use mathlib.Core.Bool.{Bool, true, false, ◌||◌}
use mathlib.Core.List.{List, []}
use Prim.Native.Nat.{ℕ, ◌≤◌, ◌<◌}
use native.Mathlib.Omega.{arith}
use borrow.Author.Tests.{eq-eqb, ne_eqb, lt-ltb, le-ltb, ltb-false}
use lib.Dec.{ltb, eqb}
use Rattle.base_rules.specs.Bounds.{most_l, place}
use Rattle.std.specs.Prelude.{Ok, Err}
use Rattle.base_rules.specs.Refusal as refusals
use Rattle.base_rules.specs.declared.Refusal.{Refusal}
use Rattle.base_rules.proofs.Firsts.{due, skip, none_due, clear, clear_rest}
use Rattle.base_rules.proofs.Logic.{or_left, or_right}
use Rattle.af_rules.specs.Calls.{af_fault, check_call, number_of}
use Rattle.af_rules.specs.declared.Figures.{Figures}
use Rattle.code_rules.proofs.CallCases.{granted_by, refused_by}
use Rattle.places_rules.specs.declared.Place.{Place}
use Rattle.places_rules.specs.Faults.{bad_place}
use Rattle.form_rules.specs.Agree.{enough, enough_in, missing_in}
use Rattle.form_rules.specs.Calls.{form_fault}

module _ (p : Place) (held room : ℕ) where
  -- a place with a field out of its range is refused with 14 STATE
  pub fault_14 : bad_place p ≡ true → 14 ≡ form_fault p held room
  unfolding form_fault
  fault_14 e = due 14 _ e

  module _ (fine : bad_place p ≡ false) where
    -- a place in range, of which fewer than 12,288 bytes are lent, is refused with 1 ROOM
    pub fault_held : held < place → 1 ≡ form_fault p held room
    unfolding form_fault
    fault_held h = skip 14 _ fine (due 1 _ (ap (λ (b : Bool). b || ltb room most_l) (lt-ltb held place h)))

    module _ (long : place ≤ held) where
      one_left : {b : Bool} → ltb room most_l ≡ b → (ltb held place || ltb room most_l) ≡ b
      one_left e = ap (λ (b : Bool). b || ltb room most_l) (le-ltb held place long) ∙ e

      -- where these are all lent, a packet buffer under 8,192 bytes is refused with 1 ROOM
      pub fault_room : room < most_l → 1 ≡ form_fault p held room
      unfolding form_fault
      fault_room h = skip 14 _ fine (due 1 _ (one_left (lt-ltb room most_l h)))

      -- and with a packet buffer of 8,192 bytes or more nothing is refused
      pub fault_none : most_l ≤ room → 0 ≡ form_fault p held room
      unfolding form_fault
      fault_none h = skip 14 _ fine (skip 1 _ (one_left (le-ltb room most_l h)) none_due)

  -- what is known where nothing is due
  pub fault_free : form_fault p held room ≡ 0 → (bad_place p ≡ false) × (place ≤ held) × (most_l ≤ room)
  unfolding form_fault
  fault_free e =
      let fits : (ltb held place || ltb room most_l) ≡ false = clear _ 1 [] (λ z. omega arith) (clear_rest (bad_place p) 14 _ (λ z. omega arith) e) in (
        clear (bad_place p) 14 _ (λ z. omega arith) e,
        ltb-false held place (or_left (ltb held place) _ fits),
        ltb-false room most_l (or_right (ltb held place) _ fits),
      )

-- the AF checks, by what was answered
module _ (packet : List ℕ) where
  -- a check that was granted tells that the packet passes
  pub passed : (a : Figures) → number_of (Ok a) ≡ check_call packet → true ≡ eqb (af_fault packet) 0
  unfolding check_call number_of refusals.told
  passed a e = sym (eq-eqb (af_fault packet) 0 (sym (granted_by (af_fault packet) _ _ e).0))

  -- a check that was refused tells that it does not
  pub not_passed : (n : Refusal) → number_of (Err n) ≡ check_call packet → false ≡ eqb (af_fault packet) 0
  unfolding check_call number_of refusals.told
  not_passed n e = let told = refused_by (refusals.number n) (af_fault packet) _ e in sym (ne_eqb (af_fault packet) 0 (λ z. omega (arith, told.0, told.1)))

-- without FEC they suffice where none is missing
pub enough-plain : (p : Place) (n : ℕ) → p.fec ≡ false → n ≡ missing_in p → eqb n 0 ≡ enough_in p
unfolding enough_in enough missing_in
enough-plain p n plain e = simp (e, plain)
