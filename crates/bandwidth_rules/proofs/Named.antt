-- An item that a search finds has the name that was looked for. Assumes nothing.
use mathlib.Core.Path.{◌≡◌, refl}
use mathlib.Core.Bool.{Bool, true, false, cond}
use mathlib.Core.List.{List}
use Prim.Native.Nat.{ℕ}
use lib.Dec.{eqb}
use borrow.Author.Tests.{eqb-true}
use Rattle.std.specs.Prelude.{Result, Ok, Err, Option, Some, None}
use Rattle.base_rules.specs.declared.Refusal.{Refusal}
use Rattle.base_rules.specs.Refusal.{refusal_of}
use Rattle.item_rules.specs.declared.Item.{Item}
use Rattle.item_rules.specs.declared.Repeats.{Repeats}
use Rattle.item_rules.specs.Run.{Run, item, padding, refused, first_of}
use Rattle.tag_rules.specs.Find.{whole_run, check_of, in_packet, in_standing, locate_of}
use Rattle.tag_rules.specs.declared.Located.{Located}
use Rattle.tag_rules.specs.declared.Located.TheVariants as located

module _ (name : ℕ) where
  -- what was found, if anything, has it
  abbrev Has : Option Item → Type 0
  Has (Some i) = i.name ≡ name
  Has None = Unit {0}

  -- in either packet
  abbrev pub Named : Result Located Refusal → Type 0
  Named (Ok (located.Packet i)) = i.name ≡ name
  Named (Ok (located.Standing i)) = i.name ≡ name
  Named (Err n) = Unit {0}

  item_has : (b : Bool) (i : Item) (f : Option Item) → (b ≡ true → i.name ≡ name) → Has f → Has (cond b (Some i) f)
  item_has true i f here behind = here refl
  item_has false i f here behind = behind

  first_has : (r : Run) → Has (first_of name r)
  unfolding first_of
  first_has (item i r) = item_has (eqb i.name name) i (first_of name r) (eqb-true i.name name) (first_has r)
  first_has (padding n) = tt
  first_has (refused n) = tt

  named_by : (b c : Bool) (f g : Option Item) (n m : Refusal) → Has f → Has g
      → Named (cond b (cond c (in_packet f (in_standing g)) (Err m)) (Err n))
  named_by true true (Some i) g n m p q = p
  named_by true true None (Some i) n m p q = q
  named_by true true None None n m p q = tt
  named_by true false f g n m p q = tt
  named_by false c f g n m p q = tt

  pub named : (w : Repeats) (s t : List ℕ) → Named (locate_of w s t name)
  unfolding locate_of
  named w s t =
      named_by (eqb (check_of w s) 0) (eqb (check_of w t) 0) (first_of name (whole_run s)) (first_of name (whole_run t))
      (refusal_of (check_of w s)) (refusal_of (check_of w t))
      (first_has (whole_run s)) (first_has (whole_run t))
