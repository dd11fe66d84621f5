-- What a call leaves alone: the other places and their bytes; and that the state it leaves is good again. Assumes nothing.
use mathlib.Core.Path.{◌≡◌, refl, sym, ap, ◌∙◌, subst}
use mathlib.Core.Bool.{Bool, true, false, cond}
use mathlib.Core.List.{List}
use Prim.Native.Nat.{ℕ, ◌+◌, ◌*◌, ◌≤◌, ◌<◌}
use native.Mathlib.Omega.{arith}
use lib.Dec.{eqb}
use lib.ListN.{length, take, drop, length-set, length-drop, length-replicate}
use lib.Seq.{set-set}
use Rattle.std.specs.Prelude.{Option, None}
use Rattle.base_rules.specs.Bounds.{place}
use Rattle.base_rules.specs.Bytes.{Bytes, splice}
use Rattle.base_rules.proofs.Splice.{splice-length}
use Rattle.cut_rules.specs.declared.Address.{Address}
use Rattle.header_rules.specs.declared.Header.{Header}
use Rattle.header_rules.specs.Read.{fields_of, length_of, fault_of}
use Rattle.header_rules.specs.Claims.{Sound}
use Rattle.header_rules.proofs.Proved.{passed_sound, payload_stands}
use Rattle.places_rules.specs.declared.Place.{Place}
use Rattle.places_rules.specs.declared.Table.{Table}
use Rattle.places_rules.specs.Places.{four, all_places, free, delivered, spoiled, free_place, fresh_table, place_at, with_place, key_of, key_in, holds}
use Rattle.places_rules.specs.Places.{held_at, open_at}
use Rattle.places_rules.specs.Places.{turned, opened_by, offset_of, kept_in, in_condition}
use Rattle.places_rules.specs.Faults.{bad_place, bad_table, place_fault}
use Rattle.places_rules.proofs.Checks.{bad_3}
use Rattle.places_rules.proofs.Keys.{key_opened, key-kept, key-closed}
use Rattle.places_rules.proofs.Ranges.{InRange, range_from, range_to}
use Rattle.places_rules.proofs.Proved.{fresh_in_range, kept_in_range, opened_in_range}
use Rattle.receiver_rules.specs.Promise.{Reception, reception, refused_as, State, payload_of, keep_at, closed_at, Settled, waits, delivers, damaged}
use Rattle.receiver_rules.specs.Promise.{SettledAfter}
use Rattle.receiver_rules.proofs.Ranges.{turn_fine, place_fine, opens_below, written_place}
use Rattle.receiver_rules.proofs.Offsets.{offset_fits}
use Rattle.link.specs.Run.{Call, after, Made, Run, start, next, fresh_with, Reached}
use Rattle.link.proofs.Basic.{same_or_not, less_or-not, spared_before, spared_behind, held_found, holds_number, holds_some, holds_other}
use Rattle.link.proofs.Basic.{other_place}
use Rattle.link.proofs.View.{Good, View, unheard, refuses, keeps, opens, view}

-- the state that a reception leaves
abbrev pub left_by_call : Reception → State
left_by_call y = record { table = y.table; bytes = y.bytes }

-- ---- what settling leaves

-- the place with at most another condition
pub record Closed (u : Table) (j : ℕ) (p : Place) (y : Reception) : Type 0 where
  pub condition : ℕ
  pub some : condition ≡ free → ⊥
  pub known : condition ≤ spoiled
  pub table : y.table ≡ with_place u j (in_condition p condition)

module _ (u : Table) (j : ℕ) (p : Place) (below : j < four) (size : length u.places ≡ four) where
  twice : (q : Place) → with_place (with_place u j p) j q ≡ with_place u j q
  unfolding with_place
  twice q = ap (λ (l : List Place). record { places = l; oldest = u.oldest }) (set-set u.places j p q)

  -- to close a place that was just written is to write it closed
  pub closed_again : (c : ℕ) → closed_at (with_place u j p) j c ≡ with_place u j (in_condition p c)
  unfolding closed_at
  closed_again c = twice (in_condition (place_at (with_place u j p) j) c)
      ∙ ap (λ (q : Place). with_place u j (in_condition q c)) (written_place u j p size below)

  as_before : with_place u j p ≡ with_place u j (in_condition p p.condition)
  unfolding in_condition
  as_before = refl

  -- however it settles, the table is the one that keeping left, but for the condition of place j
  pub settled-place : {d : Option ℕ} {b o : List ℕ} {y : Reception} → (p.condition ≡ free → ⊥) → p.condition ≤ spoiled
      → Settled (with_place u j p) j d b o y → Closed u j p y
  unfolding reception
  settled-place some known (waits e) = record { condition = p.condition; some = some; known = known; table = as_before }
  settled-place some known (delivers P e a) = record
      { condition = delivered; some = λ z. omega arith; known = omega arith; table = closed_again delivered }
  settled-place some known (damaged e a) = record { condition = spoiled; some = λ z. omega arith; known = omega arith; table = closed_again spoiled }

-- however it settles, the lent bytes are those that keeping left
pub settled-bytes : {t : Table} {j : ℕ} {d : Option ℕ} {b o : List ℕ} {y : Reception} → Settled t j d b o y → y.bytes ≡ b
unfolding reception
settled-bytes (waits e) = refl
settled-bytes (delivers P e a) = refl
settled-bytes (damaged e a) = refl

-- ---- ranges

closed_fine : (p : Place) (c : ℕ) → c ≤ spoiled → bad_place p ≡ false → bad_place (in_condition p c) ≡ false
unfolding in_condition
closed_fine p c known e =
    let r : InRange p = range_from p e in
    range_to _ (record { condition = known; count = r.count; size = r.size; last = r.last; less = r.less; coded = r.coded })

fine_table : (t : Table) → t.oldest < four → ((i : ℕ) → i < four → bad_place (place_at t i) ≡ false) → bad_table t ≡ false
fine_table t below fine = sym (bad_3 t below (fine 0 (omega arith)) (fine 1 (omega arith)) (fine 2 (omega arith)) (sym (fine 3 (omega arith))))

-- ---- a call that kept a fragment in place j of the table u

-- place j has the fragment's number; the other places and their bytes are as before; the state is good
pub record Wrote (s : State) (u : Table) (h : Header) (j : ℕ) (y : Reception) : Type 0 where
  pub below : j < four
  -- what stands in the place after it, held by the fragment's number
  pub place_now : Place
  pub table : y.table ≡ with_place u j place_now
  pub here : place_at y.table j ≡ place_now
  pub number : key_in place_now ≡ key_of h
  pub some : place_now.condition ≡ free → ⊥
  -- the other places, and the bytes before and behind this one
  pub others : (i : ℕ) → (i ≡ j → ⊥) → place_at y.table i ≡ place_at s.table i
  pub before : (a n : ℕ) → a + n ≤ j * place → take n (drop a y.bytes) ≡ take n (drop a s.bytes)
  pub behind : (a n : ℕ) → j * place + place ≤ a → take n (drop a y.bytes) ≡ take n (drop a s.bytes)
  pub good : Good (left_by_call y)

-- the table before it: the four places as they were
record Same (s : State) (u : Table) : Type 0 where
  pub size : length u.places ≡ four
  pub turn : u.oldest < four
  pub places : (i : ℕ) → place_at u i ≡ place_at s.table i

module _ (own : Option Address) (s : State) (r : Good s) (d o : List ℕ) (bytes : Bytes d) (heard : fault_of own d ≡ 0) where
  abbrev h : Header
  h = fields_of d

  sound : Sound h
  sound = passed_sound own d bytes heard

  -- the payload of a datagram that is heard has Plen bytes
  pub payload_long : length (payload_of d) ≡ h.plen
  unfolding payload_of
  payload_long = length-drop (length_of d) d ∙ omega (arith, payload_stands own d heard)

  module _ (u : Table) (same : Same s u) (j : ℕ) (low : j < four) (p : Place) (some : p.condition ≡ free → ⊥) (is_number : key_in p ≡ key_of h)
      (fine : bad_place (kept_in p h) ≡ false) (l : Option ℕ) (y : Reception) where
    abbrev kept : Place
    kept = kept_in p h

    kept_number : key_in kept ≡ key_of h
    kept_number = key-kept p h ∙ is_number

    kept_some : kept.condition ≡ free → ⊥
    unfolding kept_in
    kept_some = some

    abbrev from : ℕ
    from = j * place + offset_of h

    room : from + length (payload_of d) ≤ length s.bytes
    room = omega (arith, payload_long, r.whole, offset_fits h sound, low)

    module _ (settled : Settled (with_place u j kept) j l (splice s.bytes from (payload_of d)) o y) where
      now : Closed u j kept y
      now = settled-place u j kept low same.size kept_some (range_from kept fine).condition settled

      abbrev p' : Place
      p' = in_condition kept now.condition

      number' : key_in p' ≡ key_of h
      number' = key-closed kept now.condition ∙ kept_number

      some' : p'.condition ≡ free → ⊥
      unfolding in_condition
      some' = now.some

      here' : place_at y.table j ≡ p'
      here' = ap (λ (t : Table). place_at t j) now.table ∙ written_place u j p' same.size low

      others' : (i : ℕ) → (i ≡ j → ⊥) → place_at y.table i ≡ place_at s.table i
      others' i n = ap (λ (t : Table). place_at t i) now.table ∙ other_place u j p' i n ∙ same.places i

      size' : length y.table.places ≡ four
      unfolding with_place
      size' = ap (λ (t : Table). length t.places) now.table ∙ length-set u.places j p' ∙ same.size

      turn' : y.table.oldest ≡ u.oldest
      unfolding with_place
      turn' = ap (λ (t : Table). t.oldest) now.table

      fine' : (i : ℕ) → i < four → bad_place (place_at y.table i) ≡ false
      fine' i k =
          same_or_not i j
          (λ e. ap (λ (x : ℕ). bad_place (place_at y.table x)) e ∙ ap bad_place here' ∙ closed_fine kept now.condition now.known fine)
          (λ n. ap bad_place (others' i n) ∙ place_fine s.table r.ranged i k)

      windowed : (a n : ℕ) → take n (drop a y.bytes) ≡ take n (drop a (splice s.bytes from (payload_of d)))
      windowed a n = ap (λ (x : List ℕ). take n (drop a x)) (settled-bytes settled)

      wrote : Wrote s u h j y
      wrote =
          record {
            below = low;
            place_now = p';
            table = now.table;
            here = here';
            number = number';
            some = some';
            others = others';
            before = λ a n k. windowed a n ∙ spared_before s.bytes from (payload_of d) room a n (omega arith);
            behind = λ a n k. windowed a n ∙ spared_behind s.bytes from (payload_of d) room a n (omega (arith, payload_long, offset_fits h sound));
            good =
                record {
                  places = size';
                  ranged = fine_table y.table (omega (arith, turn', same.turn)) fine';
                  whole = ap length (settled-bytes settled) ∙ splice-length s.bytes from (payload_of d) room ∙ r.whole;
                };
          }

-- ---- the two kinds of call that keep a fragment

held_same : (s : State) → Good s → Same s s.table
held_same s r = record { size = r.places; turn = turn_fine s.table r.ranged; places = λ i. refl }

turned_same : (s : State) → Good s → Same s (turned s.table (open_at s.table))
unfolding turned place_at
turned_same s r =
    record {
      size = r.places;
      turn = choice (eqb (place_at s.table (open_at s.table)).condition free) (turn_fine s.table r.ranged) (omega arith);
      places = λ i. refl;
    }
  where
    choice : (b : Bool) {x y : ℕ} → x < four → y < four → cond b x y < four
    choice true p q = p
    choice false p q = q

module _ (own : Option Address) (s : State) (r : Good s) (d o : List ℕ) (bytes : Bytes d) (heard : fault_of own d ≡ 0) (y : Reception) where
  -- a fragment that is not refused by the place that holds its number is kept there
  pub wrote_held : (j : ℕ) → j ≡ held_at s.table (key_of (fields_of d)) → j < four → place_fault (place_at s.table j) (fields_of d) ≡ 0
      → SettledAfter (keep_at s.table j (place_at s.table j) None (fields_of d) s.bytes (payload_of d)) o y → Wrote s s.table (fields_of d) j y
  unfolding keep_at
  wrote_held j e low f z =
      let held : holds (place_at s.table j) (key_of (fields_of d)) ≡ true =
      ap (λ (i : ℕ). holds (place_at s.table i) (key_of (fields_of d))) e
      ∙ held_found s.table (key_of (fields_of d)) (subst (λ (i : ℕ). i < four) e low) in
      wrote own s r d o bytes heard s.table (held_same s r) j low (place_at s.table j) (holds_some _ _ held) (holds_number _ _ held)
      (kept_in_range _ _ (place_fine s.table r.ranged j low) (passed_sound own d bytes heard) f) None y z

  -- a fragment that opens a place is kept there
  pub wrote_opened : (l : Option ℕ)
      → SettledAfter (keep_at (turned s.table (open_at s.table)) (open_at s.table) (opened_by (fields_of d)) l (fields_of d) s.bytes
      (payload_of d)) o y
      → Wrote s (turned s.table (open_at s.table)) (fields_of d) (open_at s.table) y
  unfolding keep_at opened_by
  wrote_opened l z =
      wrote own s r d o bytes heard (turned s.table (open_at s.table)) (turned_same s r) (open_at s.table) (opens_below s.table r.ranged)
      (opened_by (fields_of d)) (λ e. omega arith) (key_opened (fields_of d)) (opened_in_range (fields_of d) (passed_sound own d bytes heard)) l y z

-- ---- a place that a call leaves alone

-- the record of place i and its 12,288 bytes are as they were before the call
pub record Spared (s : State) (i : ℕ) (y : Reception) : Type 0 where
  pub kept-place : place_at y.table i ≡ place_at s.table i
  pub kept-bytes : (a n : ℕ) → i * place ≤ a → a + n ≤ i * place + place → take n (drop a y.bytes) ≡ take n (drop a s.bytes)

module _ {s : State} {u : Table} {h : Header} {j : ℕ} {y : Reception} (w : Wrote s u h j y) where
  -- a call that keeps a fragment in one place leaves each other place alone
  pub wrote_spares : (i : ℕ) → (i ≡ j → ⊥) → Spared s i y
  wrote_spares i n =
      record {
        kept-place = w.others i n;
        kept-bytes = λ a k low high. less_or-not i j (λ l. w.before a k (omega arith)) (λ l. w.behind a k (omega (arith, above l)));
      }
    where
      above : j ≤ i → j < i
      above l = omega arith

  -- no number comes into the table but the fragment's
  pub wrote_strange : (n : ℕ) → (key_of h ≡ n → ⊥) → (i : ℕ) → holds (place_at s.table i) n ≡ false → holds (place_at y.table i) n ≡ false
  wrote_strange n other i e =
      same_or_not i j
      (λ k. ap (λ (x : ℕ). holds (place_at y.table x) n) k ∙ ap (λ (p : Place). holds p n) w.here
      ∙ holds_other w.place_now n (λ z. other (sym w.number ∙ z)))
      (λ k. ap (λ (p : Place). holds p n) (w.others i k) ∙ e)

-- ---- every reached state is good

good_view : (s : State) → Good s → (e : Call) → Bytes e.datagram → View e.own s e.datagram e.lent e.left → Good (after e)
unfolding refused_as
good_view s r e b (unheard n q) = subst (λ (y : Reception). Good (left_by_call y)) (sym q) r
good_view s r e b (refuses heard low f q) = subst (λ (y : Reception). Good (left_by_call y)) (sym q) r
good_view s r e b (keeps heard low f z) = (wrote_held e.own s r e.datagram e.lent b heard e.left _ refl low f z).good
good_view s r e b (opens heard high z) = (wrote_opened e.own s r e.datagram e.lent b heard e.left _ z).good

-- what a call of a run does
pub see : {s : State} {e : Call} → Good s → Made s e → View e.own s e.datagram e.lent e.left
see r m = view _ _ _ _ _ r m.room m.meets

pub good_after : {s : State} {e : Call} → Good s → Made s e → Good (after e)
good_after {s} {e} r m = good_view s r e m.bytes (see r m)

-- calls from a good state on leave a good state
pub good_run : {s u : State} {es : List Call} → Good s → Run s es u → Good u
good_run r start = r
good_run r (next e run m) = good_after (good_run r run) m

-- a fresh table with all of the 49,152 bytes lent is good
pub good_fresh : (b : List ℕ) → length b ≡ all_places → Good (fresh_with b)
unfolding fresh_table
good_fresh b e = record { places = length-replicate four free_place; ranged = fresh_in_range; whole = e }

-- every state that calls have left is good
pub good_reached : {s : State} → Reached s → Good s
good_reached c = good_run (good_fresh c.lent c.all) c.run
