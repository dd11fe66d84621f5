-- What writing is refused for, by what the tests say; and what is known where it is not refused. Assumes nothing.
use mathlib.Core.Path.{◌≡◌, refl, sym}
use mathlib.Core.Bool.{Bool, true, false, not}
use Prim.Native.Nat.{ℕ, ◌+◌, ◌≤◌, ◌<◌}
use native.Mathlib.Omega.{arith}
use lib.Dec.{eqb}
use borrow.Author.Tests.{eq-eqb, ne_eqb, lt-ltb, le-ltb, eqb-true, ltb-false}
use Rattle.base_rules.proofs.Firsts.{due, skip, none_due, clear, clear_rest}
use Rattle.item_rules.specs.Item.{head, bytes_for}
use Rattle.item_rules.specs.Run.{bad_ptr}
use Rattle.write_rules.specs.Write.{write_fault}

module _ (name bits len room n : ℕ) (q : n ≡ bytes_for bits) where
  -- a value of other than ceil(bits / 8) bytes is refused with 43
  pub not-bytes : (len ≡ n → ⊥) → 43 ≡ write_fault name bits len room
  unfolding write_fault
  not-bytes h = due 43 _ (simp (← q, ne_eqb len n h))

  whole : len ≡ n → not (eqb len (bytes_for bits)) ≡ false
  whole e = simp (← q, eq-eqb len n e)

  -- where the value has these bytes, a "*ptr" that has not 64 bits is refused with 33
  pub not-ptr : len ≡ n → bad_ptr name bits ≡ true → 33 ≡ write_fault name bits len room
  unfolding write_fault
  not-ptr e p = skip 43 _ (whole e) (due 33 _ p)

  -- where neither is due, too little room for head and value is refused with 1
  pub no_room : len ≡ n → bad_ptr name bits ≡ false → room < head + n → 1 ≡ write_fault name bits len room
  unfolding write_fault
  no_room e p h = skip 43 _ (whole e) (skip 33 _ p (due 1 _ (lt-ltb _ _ (rw q at h))))

  -- where none of the three is due, nothing is refused
  pub all_right : len ≡ n → bad_ptr name bits ≡ false → head + n ≤ room → 0 ≡ write_fault name bits len room
  unfolding write_fault
  all_right e p h = skip 43 _ (whole e) (skip 33 _ p (skip 1 _ (le-ltb _ _ (rw q at h)) none_due))

not-not : (b : Bool) → not b ≡ false → b ≡ true
not-not true e = refl
not-not false e = sym e

-- where nothing is refused the value has the bytes of its bits, and there is room for the item
pub taken : (name bits len room : ℕ) → write_fault name bits len room ≡ 0 → (len ≡ bytes_for bits) × (head + bytes_for bits ≤ room)
unfolding write_fault
taken name bits len room e =
    let after = clear_rest _ 43 _ (λ z. omega arith) e in (
      eqb-true _ _ (not-not (eqb len (bytes_for bits)) (clear _ 43 _ (λ z. omega arith) e)),
      ltb-false _ _ (clear _ 1 _ (λ z. omega arith) (clear_rest (bad_ptr name bits) 33 _ (λ z. omega arith) after)),
    )
