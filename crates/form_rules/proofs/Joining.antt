-- Without FEC: the fragments before the last and the last fit a place, and one behind the other they are the packet. Assumes nothing.
use mathlib.Core.Path.{◌≡◌, refl, ap, ap₂, ◌∙◌}
use mathlib.Core.Bool.{false}
use mathlib.Core.List.{List, ◌++◌}
use Prim.Native.Nat.{ℕ, zero, suc, ◌+◌, ◌-◌, ◌*◌, ◌≤◌}
use native.Mathlib.Omega.{arith}
use lib.ListN.{length, take, drop, length-append, length-drop}
use lib.Seq.{length-take-le}
use Rattle.base_rules.specs.Answer.{Answer, outcome}
use Rattle.base_rules.specs.Bounds.{place}
use Rattle.base_rules.specs.Bytes.{splice}
use Rattle.base_rules.specs.Written.{put_of}
use Rattle.base_rules.proofs.Answers.{put_is}
use Rattle.base_rules.proofs.Splice.{splice-length, splice_next}
use Rattle.places_rules.specs.declared.Place.{Place}
use Rattle.places_rules.specs.Faults.{bad_place}
use Rattle.places_rules.proofs.Ranges.{range_from}
use Rattle.form_rules.specs.Agree.{joined}

-- n fragments of s bytes, of which the last one may be shorter
fits : (n s l : ℕ) → n * s ≤ place → l ≤ place → ((s ≡ 0 → ⊥) → l ≤ s) → (n - 1) * s + l ≤ place
fits zero s l all one less = omega arith
fits (suc n) zero l all one less = omega arith
fits (suc n) (suc s) l all one less =
    let e : suc n - 1 ≡ n = omega arith in
    omega (arith, ap (λ (x : ℕ). x * suc s) e, less (λ z. omega arith))

-- ---- of a place in range

module _ (p : Place) (fine : bad_place p ≡ false) where
  -- the fragments before the last, and the last, have room in one place together
  pub front_fits : (p.count - 1) * p.size + p.last ≤ place
  front_fits = let r = range_from p fine in fits p.count p.size p.last r.size r.last r.less

  -- where no fragment comes before the last, no byte does, and the last alone fits a place
  pub front_none : p.count - 1 ≡ 0 → (0 ≡ (p.count - 1) * p.size) × (0 + p.last ≤ place)
  front_none e =
      let none : (p.count - 1) * p.size ≡ 0 * p.size = ap (λ (n : ℕ). n * p.size) e in
      (omega (arith, none), omega (arith, (range_from p fine).last))

-- ---- joined as it is copied: n bytes from the front, and the last fragment from where it begins to the place's end

module _ (p : Place) (held : List ℕ) (long : place ≤ length held) (n : ℕ) (is_front : (n ≡ (p.count - 1) * p.size) × (n + p.last ≤ place)) where
  abbrev last_part : List ℕ
  last_part = take (place - (place - p.last)) (drop (place - p.last) held)

  last_long : place - (place - p.last) ≡ p.last
  last_long = omega (arith, is_front.1)

  is_joined : take n held ++ last_part ≡ joined p held
  unfolding joined
  is_joined = ap₂ (λ (x y : ℕ). take x held ++ take y (drop (place - p.last) held)) is_front.0 last_long

  front_length : length (take n held) ≡ n
  front_length = length-take-le n held (omega (arith, is_front.1))

  last-length : length last_part ≡ p.last
  last-length = length-take-le _ (drop (place - p.last) held) (rw length-drop (omega (arith, is_front.1))) ∙ last_long

  -- the joined packet has these n bytes and those of the last fragment
  pub joined_length : n + p.last ≡ length (joined p held)
  joined_length = omega (arith, ap length is_joined, length-append (take n held) last_part, front_length, last-length)

  -- copying the one and then the other right behind it leaves the joined packet at the front
  pub joined_put : (buffer first both : List ℕ) (a b : Answer) → length buffer ≡ place → outcome a first ≡ put_of buffer 0 (take n held)
      → outcome b both ≡ put_of first n last_part → both ≡ splice buffer 0 (joined p held)
  joined_put buffer first both a b as_long e q =
      let room : 0 + length (take n held) ≤ length buffer = omega (arith, front_length, is_front.1, as_long) in
      let front : first ≡ splice buffer 0 (take n held) = put_is buffer (take n held) first 0 a room e in
      let same : length first ≡ place = ap length front ∙ splice-length buffer 0 (take n held) room ∙ as_long in
      let back : both ≡ splice first n last_part = put_is first last_part both n b (omega (arith, last-length, is_front.1)) q in
      back
      ∙ ap (λ (l : List ℕ). splice l n last_part) front
      ∙ splice_next buffer (take n held) last_part n front_length
      ∙ ap (splice buffer 0) is_joined

-- what is joined from a place in range is no longer than a place
pub joined_fits : (p : Place) (held : List ℕ) → bad_place p ≡ false → place ≤ length held → length (joined p held) ≤ place
joined_fits p held fine long = omega (arith, front_fits p fine, joined_length p held long _ (refl, front_fits p fine))
