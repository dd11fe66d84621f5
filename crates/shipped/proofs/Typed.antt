-- The fields of the record that a call of `receive` leaves have the bytes in which C has them. Assumes nothing.
use mathlib.Core.Path.{sym, ◌∙◌, subst}
use mathlib.Core.Bool.{true, false}
use mathlib.Core.List.{List}
use Prim.Native.Nat.{ℕ, ◌≤◌, ◌<◌}
use native.Mathlib.Omega.{arith}
use lib.Dec.{eqb, lit<}
use lib.ListN.{length, length-set, length-replicate}
use Rattle.std.specs.Prelude.{Option}
use Rattle.base_rules.specs.Bounds.{most_l, most_f}
use Rattle.base_rules.specs.Bytes.{Bytes}
use Rattle.base_rules.proofs.Logic.{either}
use Rattle.cut_rules.specs.declared.Address.{Address}
use Rattle.header_rules.specs.declared.Header.{Header}
use Rattle.header_rules.specs.Claims.{Sound}
use Rattle.header_rules.specs.Read.{fields_of}
use Rattle.header_rules.proofs.Proved.{passed_sound}
use Rattle.packed_rules.specs.Claims.{Typed, TypedTable}
use Rattle.places_rules.specs.declared.Place.{Place}
use Rattle.places_rules.specs.declared.Table.{Table}
use Rattle.places_rules.specs.Places.{four, free, delivered, spoiled, place_at, with_place, key_in, open_at, turned, is_last, opened_by, kept_in, in_condition}
use Rattle.receiver_rules.specs.Promise.{Reception, reception, refused_as, State, keep_at, closed_at, Settled, waits, delivers, damaged, Step}
use Rattle.receiver_rules.proofs.Ranges.{opens_below, written_place}
use Rattle.link.proofs.Basic.{same_or_not, other_place}
use Rattle.link.proofs.View.{Good, View, unheard, refuses, keeps, opens, view}

-- ---- a place

-- the number of such a place has two bytes
pub key_small : {p : Place} → Typed p → key_in p < 65536
unfolding key_in
key_small t = t.number

module _ (h : Header) (sound : Sound h) where
  opened_typed : Typed (opened_by h)
  unfolding opened_by
  opened_typed = record {
    condition = lit< tt;
    number = sound.written.number;
    count = omega (arith, sound.few);
    rsk = sound.written.rsk;
    rsz = sound.written.rsz;
    size = lit< tt;
    last = lit< tt;
    kept = length-replicate most_f false;
  }

  kept_typed : (p : Place) → Typed p → Typed (kept_in p h)
  unfolding kept_in
  kept_typed p t = record {
    condition = t.condition;
    number = t.number;
    count = t.count;
    rsk = t.rsk;
    rsz = t.rsz;
    size = either (is_last h) (λ e. rw e t.size) (λ e. rw e (omega (arith, sound.written.plen)));
    last = either (is_last h) (λ e. rw e (omega (arith, sound.written.plen))) (λ e. rw e t.last);
    kept = length-set p.kept h.index true ∙ t.kept;
  }

closed_typed : (p : Place) (condition : ℕ) → condition < 256 → Typed p → Typed (in_condition p condition)
unfolding in_condition
closed_typed p condition small t = record {
  condition = small;
  number = t.number;
  count = t.count;
  rsk = t.rsk;
  rsz = t.rsz;
  size = t.size;
  last = t.last;
  kept = t.kept;
}

-- ---- a record

module _ (t : Table) (typed : TypedTable t) where
  written_typed : (i : ℕ) (p : Place) → i < four → Typed p → TypedTable (with_place t i p)
  unfolding with_place
  written_typed i p low new = record {
    places = length-set t.places i p ∙ typed.places;
    each = λ j l.
        same_or_not j i
        (λ e. rw e (subst Typed (sym (written_place t i p typed.places low)) new))
        (λ n. subst Typed (sym (other_place t i p j n)) (typed.each j l));
    oldest = typed.oldest;
  }

  turned_typed : (i : ℕ) → TypedTable (turned t i)
  unfolding turned place_at
  turned_typed i = record {
    places = typed.places;
    each = typed.each;
    oldest = either (eqb (place_at t i).condition free) (λ e. rw e typed.oldest) (λ e. rw e (omega arith));
  }

  settled_typed : {i : ℕ} {d : Option ℕ} {b out : List ℕ} {y : Reception} → i < four → Settled t i d b out y → TypedTable y.table
  unfolding reception closed_at
  settled_typed low (waits e) = typed
  settled_typed {i = i} low (delivers P e a) = written_typed i _ low (closed_typed (place_at t i) delivered (lit< tt) (typed.each i low))
  settled_typed {i = i} low (damaged e a) = written_typed i _ low (closed_typed (place_at t i) spoiled (lit< tt) (typed.each i low))

-- ---- a call

module _ (own : Option Address) (s : State) (d o : List ℕ) (y : Reception) (r : Good s) (typed : TypedTable s.table) (bytes : Bytes d) where
  view_typed : View own s d o y → TypedTable y.table
  unfolding refused_as keep_at
  view_typed (unheard n q) = subst (λ (z : Reception). TypedTable z.table) (sym q) typed
  view_typed (refuses e l n q) = subst (λ (z : Reception). TypedTable z.table) (sym q) typed
  view_typed (keeps e l n z) =
      settled_typed _ (written_typed s.table typed _ _ l (kept_typed (fields_of d) (passed_sound own d bytes e) _ (typed.each _ l))) l z
  view_typed (opens e l z) =
      let sound = passed_sound own d bytes e in
      let low = opens_below s.table r.ranged in
      settled_typed _
      (written_typed _ (turned_typed s.table typed (open_at s.table)) _ _ low (kept_typed (fields_of d) sound _ (opened_typed (fields_of d) sound))) low z

  -- a call of a run leaves such a record
  pub step_typed : most_l ≤ length o → Step own s d o y → TypedTable y.table
  step_typed room step = view_typed (view own s d o y r room step)
