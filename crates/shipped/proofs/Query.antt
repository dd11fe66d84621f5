-- What bailhammer_query tells in reached buffers, and what the caller reads of it. Assumes nothing.
use mathlib.Core.Path.{◌≡◌, sym, ap, ◌∙◌}
use mathlib.Core.Bool.{cond}
use mathlib.Core.List.{List, [], ◌∷◌}
use Prim.Native.Nat.{ℕ, ◌%◌, ◌<◌, ◌≤◌}
use native.Mathlib.Nat.{le_refl}
use native.Mathlib.Omega.{arith}
use borrow.Author.Tests.{eq-eqb, ne_eqb}
use lib.Dec.{eqb, lit<}
use lib.ListN.{length}
use Rattle.base_rules.specs.Answer.{Answer, granted}
use Rattle.base_rules.specs.Bounds.{most_l}
use Rattle.base_rules.specs.Bytes.{number_at, bytes_of}
use Rattle.base_rules.proofs.Answers.{grants}
use Rattle.base_rules.proofs.Logic.{either}
use Rattle.base_rules.proofs.Numbers.{number_back}
use Rattle.packed_rules.specs.Packed.{table_from, unpack_fault}
use Rattle.places_rules.specs.declared.Place.{Place}
use Rattle.places_rules.specs.declared.Table.{Table}
use Rattle.places_rules.specs.Places.{four, free, open_now, place_at, key_in, held_at}
use Rattle.places_rules.proofs.Ranges.{range_from}
use Rattle.receiver_rules.specs.Calls.{shown_of}
use Rattle.receiver_rules.proofs.Ranges.{place_fine}
use Rattle.card_rules.specs.Told.{refusal_in, in_widths, told_length, room_for, told_of}
use Rattle.card_rules.specs.Receiving.{on_record, place_told, places_told, places_widths, query_for}
use Rattle.card_rules.proofs.TellLaws.{fits_room}
use Rattle.link.proofs.Basic.{each-place, held_found, held_some, holds_yes, holds_number, holds_some}
use Rattle.link.proofs.View.{no_room_fault}
use Rattle.shipped.specs.Runs.{Buffers, state_of, query_bytes, queried, condition_told, number_told, ShownAs, Holds}
use Rattle.shipped.specs.Runs.{QueryTells, HoldsAlike, OpenTold}
use Rattle.shipped.proofs.Runs.{Stands, reached_stands}
use Rattle.shipped.proofs.Typed.{key_small}

-- ---- what is told

-- 12 bytes are room for it
room_told : (told : List ℕ) → query_bytes ≤ length told → told_length places_widths ≤ length told
unfolding told_length
room_told told room = omega arith

-- what is told of a place's number
abbrev shown_number : Place → ℕ
shown_number p = cond (eqb p.condition free) 0 (key_in p)

small_mod : (x : ℕ) → x < 256 → x % 256 ≡ x
small_mod x l = omega arith

module _ (s : Buffers) (stands : Stands s) where
  abbrev t : Table
  t = table_from s.table

  query_granted : query_for s.table (length s.lent) ≡ granted (places_told t)
  unfolding query_for on_record
  query_granted =
      rw (eq-eqb (unpack_fault s.table) 0 stands.read)
      (sym (grants _ (places_told t) (sym (no_room_fault (state_of s) stands.good most_l (le_refl most_l)))))

  -- ---- what is read

  condition_small : (i : ℕ) → i < four → (place_at t i).condition < 256
  condition_small i l = omega (arith, (range_from (place_at t i) (place_fine t stands.good.ranged i l)).condition)

  shown_small : (i : ℕ) → i < four → shown_number (place_at t i) < 65536
  shown_small i l = either (eqb (place_at t i).condition free) (λ e. rw e (lit< tt)) (λ e. rw e (key_small (stands.typed.each i l)))

  -- byte 3 i is the condition of place i,
  pub condition_read : (i : ℕ) → i < four → condition_told s i ≡ (place_at t i).condition
  unfolding queried in_widths places_told place_told bytes_of
  condition_read =
      each-place (λ i. condition_told s i ≡ (place_at t i).condition)
      (small_mod _ (condition_small 0 (lit< tt)))
      (small_mod _ (condition_small 1 (lit< tt)))
      (small_mod _ (condition_small 2 (lit< tt)))
      (small_mod _ (condition_small 3 (lit< tt)))

  shown_read : (i : ℕ) → i < four → number_told s i ≡ shown_number (place_at t i)
  unfolding queried in_widths places_told place_told bytes_of number_at
  shown_read =
      each-place (λ i. number_told s i ≡ shown_number (place_at t i))
      (number_back 2 _ [] (shown_small 0 (lit< tt)))
      (number_back 2 _ [] (shown_small 1 (lit< tt)))
      (number_back 2 _ [] (shown_small 2 (lit< tt)))
      (number_back 2 _ [] (shown_small 3 (lit< tt)))

  -- and the two behind it are the number of its packet, where it is not free
  pub number_read : (i : ℕ) → i < four → ((place_at t i).condition ≡ free → ⊥) → number_told s i ≡ key_in (place_at t i)
  number_read i l some = shown_read i l ∙ rw (ne_eqb (place_at t i).condition free some)

-- ---- the claims

-- in reached buffers the query gives 0 and tells its bytes
pub query_tells : QueryTells
unfolding refusal_in told_of queried
query_tells s c told told_afterwards r room said =
    let shown : List ℕ = places_told (table_from s.table) in
    let due = ap (room_for places_widths told) (query_granted s (reached_stands c)) in
    let granted-so = fits_room places_widths told (granted shown) (room_told told room) in (
      said.number ∙ ap refusal_in (due ∙ granted-so),
      said.told ∙ ap (λ (a : Answer). told_of places_widths a told) (due ∙ granted-so),
    )

-- a number is held, by what is told, where the state holds it and nowhere else
pub holds_alike : HoldsAlike
holds_alike s c n =
    let stands = reached_stands c in
    let t : Table = table_from s.table in (
      λ (h : Holds s n).
          let at : ShownAs h.0 s n = h.2 in
          let is : (place_at t at.at).condition ≡ h.0 = sym (condition_read s stands at.at at.below) ∙ at.shown in
          let some : (place_at t at.at).condition ≡ free → ⊥ = λ z. h.1 (sym is ∙ z) in
          held_some t n at.at at.below
          (holds_yes (place_at t at.at) n some (sym (number_read s stands at.at at.below some) ∙ at.number)),
      λ (l : held_at t n < four).
          let held = held_found t n l in
          let some = holds_some (place_at t (held_at t n)) n held in (
            (place_at t (held_at t n)).condition,
            some,
            record {
              at = held_at t n;
              below = l;
              shown = condition_read s stands (held_at t n) l;
              number = number_read s stands (held_at t n) l some ∙ holds_number (place_at t (held_at t n)) n held;
            },
          ),
    )

open_place : (p : Place) (n : ℕ) → shown_of p ≡ open_now ∷ n ∷ [] → (p.condition ≡ open_now) × (key_in p ≡ n)
unfolding shown_of
open_place p n e =
    either (eqb p.condition free)
    (λ b. let z : ◌≡◌ {A = ℕ} 0 1 = cc (rw b at e) in absurd (omega arith))
    (λ b. let is : p.condition ∷ key_in p ∷ [] ≡ open_now ∷ n ∷ [] = rw b at e in (cc, cc))

-- a number that shows as open is told as open
pub open_told : OpenTold
open_told s c n shown =
    let stands = reached_stands c in
    let there = open_place (place_at (table_from s.table) shown.at) n shown.shown in
    record {
      at = shown.at;
      below = shown.below;
      shown = condition_read s stands shown.at shown.below ∙ there.0;
      number = number_read s stands shown.at shown.below (λ z. omega (arith, there.0)) ∙ there.1;
    }
