-- The figures of a place with FEC: either they make no chunk, or no call refuses them. Assumes nothing.
use mathlib.Core.Path.{◌≡◌, sym, ap}
use mathlib.Core.Bool.{Bool, true, false}
use mathlib.Core.List.{List, [], ◌∷◌}
use Prim.Native.Nat.{ℕ, ◌+◌, ◌*◌, ◌/◌, ◌≤◌, ◌<◌}
use native.Mathlib.Nat.{zero-mul, div-eq_of_lt, div-lt_iff_lt-mul, pos_of_ne-zero}
use native.Mathlib.Decide.{dec_lt}
use native.Mathlib.Omega.{arith}
use borrow.Author.Tests.{ltb-false, ne_eqb, le-ltb}
use lib.Dec.{ltb}
use Rattle.base_rules.specs.Answer.{granted, refused, answered}
use Rattle.base_rules.specs.Bounds.{most_f, most_k, bad_k, place, parity}
use Rattle.base_rules.proofs.ChunkSize.{k_fits}
use Rattle.base_rules.proofs.Firsts.{skip, none_due, clear, clear_rest}
use Rattle.base_rules.proofs.Logic.{or_right}
use Rattle.cut_rules.specs.Sizes.{received_c}
use Rattle.weave_rules.specs.Calls.{bad_count, too_much, bad_chunk, enough_fault}
use Rattle.code_rules.specs.Calls.{fill_fault}
use Rattle.code_rules.proofs.CallCases.{granted_by, refused_by}
use Rattle.places_rules.specs.declared.Place.{Place}
use Rattle.places_rules.specs.Faults.{bad_place}
use Rattle.places_rules.proofs.Ranges.{range_from}
use Rattle.form_rules.proofs.Mending.{within}

-- f fragments of s bytes, whose chunks have k data bytes, and z zeros
pub record Figures (f s k z : ℕ) : Type 0 where
  pub few : f ≤ most_f
  pub placed : f * s ≤ place
  pub some : 0 < k
  pub small : k ≤ most_k
  pub zeros : z < k

-- the figures of a place in range, with FEC, are within these bounds
pub figures : (p : Place) → bad_place p ≡ false → p.fec ≡ true → Figures p.count p.size p.rsk p.rsz
figures p ranged fec =
    let r = range_from p ranged in
    let chunk = r.coded fec in
    record { few = r.count; placed = r.size; some = chunk.0; small = chunk.1; zeros = chunk.2 }

module _ {f s k z : ℕ} (g : Figures f s k z) where
  no_chunks : f * s < k + parity → received_c f s k ≡ 0
  unfolding received_c
  no_chunks h = div-eq_of_lt h

  module _ (some : k + parity ≤ f * s) where
    -- where the fragments have the bytes of a chunk, there is at least one of them
    pub some_fragments : 0 < f
    some_fragments = pos_of_ne-zero (λ (e : f ≡ 0). omega (arith, ap (λ (x : ℕ). x * s) e, zero-mul s))

    -- the count of fragments that have the bytes of a chunk passes 7 COUNT
    pub counted : bad_count f ≡ false
    unfolding bad_count
    counted = rw (ne_eqb f 0 (λ e. omega (arith, some_fragments)), le-ltb most_f f g.few)

    -- such fragments together are not too much for a place
    pub in_place : too_much f s ≡ false
    unfolding too_much
    in_place = le-ltb place (f * s) g.placed

    sound : bad_chunk f s k ≡ false
    unfolding bad_chunk
    sound = rw (k_fits k (λ e. omega (arith, g.some)) g.small, le-ltb (f * s) (k + parity) some)

    -- where the fragments have the bytes of a chunk, the receiver takes at least one chunk
    pub some_chunk : 0 < received_c f s k
    unfolding received_c
    some_chunk =
        pos_of_ne-zero
        (λ (e : f * s / (k + parity) ≡ 0). omega (arith, (div-lt_iff_lt-mul {k = k + parity} {x = f * s} {y = 1} (omega arith)).0 (omega (arith, e))))

    enough_fine : 0 ≡ enough_fault f s k
    unfolding enough_fault
    enough_fine = skip 7 _ counted (skip 8 _ in_place (skip 8 _ sound none_due))

    fill_fine : (room : ℕ) → f * s ≤ room → 0 ≡ fill_fault f s k room
    unfolding fill_fault
    fill_fine room h =
        skip 7 _ counted
        (skip 8 _ in_place (skip 8 _ sound (skip 1 _ (le-ltb room (received_c f s k * (k + parity)) (omega (arith, within f s k))) none_due)))

  -- where a call refuses them they make no chunk
  pub enough-refused : (n : ℕ) (values : List ℕ) → refused n ≡ answered (enough_fault f s k) values → received_c f s k ≡ 0
  enough-refused n values e = go (dec_lt (f * s) (k + parity))
    where
      go : Dec (f * s < k + parity) → received_c f s k ≡ 0
      go (yes h) = no_chunks h
      go (no h) = absurd (omega (arith, refused_by n (enough_fault f s k) values e, enough_fine (omega arith)))

  -- where a filling, with a cell for each of their bytes, refuses them, they make no chunk
  pub fill-refused : (n room : ℕ) (values : List ℕ) → f * s ≤ room → refused n ≡ answered (fill_fault f s k room) values → received_c f s k ≡ 0
  fill-refused n room values fits e = go (dec_lt (f * s) (k + parity))
    where
      go : Dec (f * s < k + parity) → received_c f s k ≡ 0
      go (yes h) = no_chunks h
      go (no h) = absurd (omega (arith, refused_by n (fill_fault f s k room) values e, fill_fine (omega arith) room fits))

  -- and where it does not they make one
  pub fill-granted : (room : ℕ) (v w : List ℕ) → granted v ≡ answered (fill_fault f s k room) w → k + parity ≤ f * s
  unfolding fill_fault bad_chunk
  fill-granted room v w e =
      let rest : List (Bool × ℕ) = (ltb room (received_c f s k * (k + parity)), 1) ∷ [] in
      let none : fill_fault f s k room ≡ 0 = sym (granted_by (fill_fault f s k room) v w e).0 in
      let a = clear_rest (bad_count f) 7 ((too_much f s, 8) ∷ (bad_chunk f s k, 8) ∷ rest) (λ z. omega arith) none in
      let b = clear_rest (too_much f s) 8 ((bad_chunk f s k, 8) ∷ rest) (λ z. omega arith) a in
      ltb-false (f * s) (k + parity)
      (or_right (bad_k k) _ (clear (bad_chunk f s k) 8 rest (λ z. omega arith) b))
