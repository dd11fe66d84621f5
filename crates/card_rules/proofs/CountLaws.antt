-- How many fragments the place counts that keeps one. Assumes nothing.
use mathlib.Core.Path.{◌≡◌, refl, ◌∙◌}
use mathlib.Core.List.{List}
use Prim.Native.Nat.{ℕ, ◌≤◌, ◌<◌}
use native.Mathlib.Omega.{arith}
use borrow.Author.Tests.{eqb-true, eqb-false, ltb-true}
use lib.Dec.{ltb, eqb}
use lib.ListN.{length}
use Rattle.std.specs.Prelude.{Option}
use Rattle.base_rules.specs.Bounds.{most_f}
use Rattle.base_rules.proofs.Logic.{either}
use Rattle.cut_rules.specs.declared.Address.{Address}
use Rattle.cut_rules.specs.Missing.{losses}
use Rattle.cut_rules.proofs.LossCounts.{count_le}
use Rattle.form_rules.specs.Agree.{lost_in, missing_in}
use Rattle.header_rules.specs.declared.Header.{Header}
use Rattle.header_rules.specs.Read.{fields_of, fault_of}
use Rattle.header_rules.proofs.Checks.{index_from, passing}
use Rattle.places_rules.specs.declared.Place.{Place}
use Rattle.places_rules.specs.declared.Table.{Table}
use Rattle.places_rules.specs.Places.{four, place_at, with_place, key_of, held_at, open_at, turned, opened_by, kept_in}
use Rattle.places_rules.proofs.Ranges.{range_from}
use Rattle.receiver_rules.specs.Promise.{State, receive_fault, payload_of, keep_at, keep_of}
use Rattle.receiver_rules.specs.Claims.{due_for, kept_by}
use Rattle.receiver_rules.proofs.Ranges.{fine_table, place_fine}
use Rattle.receiver_rules.proofs.Steps.{header_due}
use Rattle.receiver_rules.proofs.Unique.{room_passed, written_or_free}

-- a place of at most 256 fragments
abbrev Few : Place → Type 0
Few p = p.count ≤ most_f

kept-few : (t : Table) (i : ℕ) (p : Place) (h : Header) → Few p → Few (place_at (with_place t i (kept_in p h)) i)
unfolding kept_in
kept-few t i p h few = written_or_free t i (kept_in p h) Few few (λ past. omega arith)

module _ (own : Option Address) (t : Table) (lent : ℕ) (datagram b payload : List ℕ) (room : ℕ)
    (passed : receive_fault own t lent datagram room ≡ 0) where
  few_held : (i : ℕ) → i < four → Few (place_at t i)
  few_held i l = (range_from (place_at t i) (place_fine t (fine_table t lent room (room_passed own t lent datagram room passed)) i l)).count

  heard : fault_of own datagram ≡ 0
  heard =
      either (eqb (fault_of own datagram) 0) (λ z. eqb-true (fault_of own datagram) 0 z)
      (λ z.
      header_due own t lent datagram room refl (room_passed own t lent datagram room passed) refl (eqb-false (fault_of own datagram) 0 z)
      ∙ passed)

  few_opened : Few (opened_by (fields_of datagram))
  unfolding opened_by
  few_opened = (index_from (fields_of datagram) (passing own datagram heard).indexed).1

  keep-few : let k = keep_of t (fields_of datagram) b payload in Few (place_at k.table k.at)
  unfolding keep_of keep_at
  keep-few =
      let h : Header = fields_of datagram in
      let held : ℕ = held_at t (key_of h) in
      either (ltb held four)
      (λ e. rw e (kept-few t held (place_at t held) h (few_held held (ltb-true held four e))))
      (λ e. rw e (kept-few (turned t (open_at t)) (open_at t) (opened_by h) h few_opened))

counts_few : (own : Option Address) (s : State) (datagram out : List ℕ) → due_for own s datagram out ≡ 0
    → (place_at (kept_by s datagram).table (kept_by s datagram).at).count ≤ most_f
counts_few own s datagram out none =
    keep-few own s.table (length s.bytes) datagram s.bytes (payload_of datagram) (length out) none

missing_most : (p : Place) → Few p → missing_in p ≤ most_f
unfolding missing_in losses
missing_most p few = omega (arith, count_le (lost_in p) 0 p.count)

-- so no more can be missing
pub missing-few : (own : Option Address) (s : State) (datagram out : List ℕ) → due_for own s datagram out ≡ 0
    → missing_in (place_at (kept_by s datagram).table (kept_by s datagram).at) ≤ most_f
missing-few own s datagram out none =
    missing_most (place_at (kept_by s datagram).table (kept_by s datagram).at) (counts_few own s datagram out none)
