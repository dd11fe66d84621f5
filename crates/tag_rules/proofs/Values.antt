-- The value of an item and its place, by where the packet ends. Assumes nothing.
use Prim.Native.Nat.{ℕ, ◌+◌, ◌-◌, ◌≤◌, ◌<◌}
use mathlib.Core.List.{List, []}
use mathlib.Core.Path.{◌≡◌, sym, ap, ◌∙◌}
use native.Mathlib.Nat.{add-sub_cancel_left}
use native.Mathlib.Omega.{arith}
use lib.ListN.{length, take, drop, length-drop, drop_of_length-le}
use lib.Seq.{take_all, take-nil}
use borrow.Author.Tests.{lt-ltb, le-ltb}
use denote.Ref.{Bor}
use Rattle.item_rules.specs.declared.Item.{Item}
use Rattle.tag_rules.specs.Find.{value_of, begins_in, value_place}

module _ (s : List ℕ) (i : Item) where
  -- before the value begins,
  pub value_none : length s ≤ i.from → [] ≡ value_of s i
  unfolding value_of
  value_none h = sym (ap (take i.len.0) (drop_of_length-le s h) ∙ take-nil i.len.0)

  -- within it,
  pub value_cut : length s - i.from < i.len.0 → take (length s - i.from) (drop i.from s) ≡ value_of s i
  unfolding value_of
  value_cut h =
      take_all (length s - i.from) (drop i.from s) (omega (arith, length-drop i.from s))
      ∙ sym (take_all i.len.0 (drop i.from s) (omega (arith, length-drop i.from s)))

  -- or not before its end
  pub value_whole : take (i.from + i.len.0 - i.from) (drop i.from s) ≡ value_of s i
  unfolding value_of
  value_whole = ap (λ (k : ℕ). take k (drop i.from s)) (add-sub_cancel_left i.from i.len.0)

module _ (p : Bor (List ℕ)) (i : Item) where
  -- one that would begin past the end is shown at the packet's start,
  pub place_none : length p.now < i.from → p.ref_ptr ≡ value_place p i
  unfolding value_place
  place_none h = rw (lt-ltb (length p.now) i.from h)

  -- every other one where it begins
  pub place_inside : i.from ≤ length p.now → begins_in p i ≡ value_place p i
  unfolding value_place
  place_inside h = rw (le-ltb (length p.now) i.from h)
