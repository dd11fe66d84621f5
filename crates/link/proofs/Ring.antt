-- Opening goes round, no number is held twice, each place is open just while what it holds does not suffice, and the fragments of a place do not
-- overlap, in every reached state. Assumes nothing.
use mathlib.Core.Path.{◌≡◌, refl, sym, ap, ◌∙◌, subst}
use mathlib.Core.Bool.{true, false}
use mathlib.Core.List.{List}
use Prim.Native.Nat.{ℕ, zero, suc, ◌+◌, ◌-◌, ◌*◌, ◌≤◌, ◌<◌}
use native.Mathlib.Nat.{zero-mul, mul-zero}
use native.Mathlib.Omega.{arith}
use lib.ListN.{get_or-replicate}
use Rattle.base_rules.specs.Bounds.{place}
use Rattle.base_rules.proofs.Logic.{clash}
use Rattle.header_rules.specs.declared.Header.{Header}
use Rattle.header_rules.specs.Read.{fields_of}
use Rattle.places_rules.specs.declared.Place.{Place}
use Rattle.places_rules.specs.declared.Table.{Table}
use Rattle.places_rules.specs.Places.{four, free, free_place, fresh_table, place_at, key_of, holds, held_at, open_at, turned, opened_by, kept_in}
use Rattle.places_rules.specs.Claims.{Opened}
use Rattle.places_rules.proofs.Ranges.{range_from}
use Rattle.places_rules.proofs.Proved.{fresh_is_opened, next_is_opened, kept_is_opened}
use Rattle.receiver_rules.specs.Promise.{Reception, refused_as, State, keep_at}
use Rattle.receiver_rules.proofs.Ranges.{place_fine}
use Rattle.link.specs.Run.{Call, after, Made, Run, start, next, Reached}
use Rattle.link.specs.Reached.{StaysInRange, GoesRound, HeldOnce, PartsApart, OpenWaits, ClosedSuffices}
use Rattle.link.proofs.Basic.{same_or_not, held_found, held_absent, holds_number, holds_some}
use Rattle.link.proofs.View.{View, unheard, refuses, keeps, opens, Good}
use Rattle.link.proofs.Frame.{left_by_call, Wrote, wrote_held, wrote_opened, see, good_run, good_fresh, good_reached}
use Rattle.link.proofs.Fitting.{still_open}
use Rattle.link.proofs.Waits.{Weighed, weighed_free, weighed_settled}

-- ---- opening goes round

module _ (m : ℕ) {s : State} {h : Header} {y : Reception} (ring : Opened m s.table) where
  -- to keep a fragment in a place that is held is no further opening
  pub ring_kept : {j : ℕ} → Wrote s s.table h j y → ((place_at s.table j).condition ≡ free → ⊥) → Opened m y.table
  ring_kept w held = subst (Opened m) (sym w.table) (kept_is_opened m s.table _ w.place_now ring held w.some)

  -- to keep one in a place that it opens is one opening more
  pub ring_opened : Wrote s (turned s.table (open_at s.table)) h (open_at s.table) y → Opened (m + 1) y.table
  ring_opened w = subst (Opened (m + 1)) (sym w.table) (next_is_opened m s.table w.place_now ring w.some)

-- ---- no number is held twice

abbrev Once : State → Type 0
Once s = (i j n : ℕ) → i < four → j < four → holds (place_at s.table i) n ≡ true → holds (place_at s.table j) n ≡ true → i ≡ j

module _ {s : State} {u : Table} {h : Header} {j : ℕ} {y : Reception} (w : Wrote s u h j y) (once : Once s)
    (alone : (k : ℕ) → k < four → holds (place_at s.table k) (key_of h) ≡ true → k ≡ j) where
  -- another place that holds the number of place j would have held it before
  as_number : (k n : ℕ) → k < four → holds (place_at y.table j) n ≡ true → holds (place_at y.table k) n ≡ true → k ≡ j
  as_number k n l a b =
      same_or_not k j (λ e. e)
      (λ other.
      let is : n ≡ key_of h = sym (holds_number _ _ (sym (ap (λ (p : Place). holds p n) w.here) ∙ a)) ∙ w.number in
      alone k l (ap (holds (place_at s.table k)) (sym is) ∙ sym (ap (λ (p : Place). holds p n) (w.others k other)) ∙ b))

  once_wrote : Once (left_by_call y)
  once_wrote i k n a b p q =
      same_or_not i j
      (λ e. e ∙ sym (as_number k n b (sym (ap (λ (x : ℕ). holds (place_at y.table x) n) e) ∙ p) q))
      (λ other.
      same_or_not k j
      (λ e. as_number i n a (sym (ap (λ (x : ℕ). holds (place_at y.table x) n) e) ∙ q) p ∙ sym e)
      (λ another.
      once i k n a b (sym (ap (λ (x : Place). holds x n) (w.others i other)) ∙ p) (sym (ap (λ (x : Place). holds x n) (w.others k another)) ∙ q)))

-- ---- each place is open just while what it holds does not suffice

abbrev AllWeighed : State → Type 0
AllWeighed s = (i : ℕ) → i < four → Weighed (place_at s.table i)

weighed_wrote : {s : State} {u : Table} {h : Header} {j : ℕ} {y : Reception} → Wrote s u h j y → AllWeighed s → Weighed (place_at y.table j)
    → AllWeighed (left_by_call y)
weighed_wrote {j} {y} w all here i l =
    same_or_not i j
    (λ e. subst (λ (k : ℕ). Weighed (place_at y.table k)) (sym e) here)
    (λ other. subst Weighed (sym (w.others i other)) (all i l))

-- ---- of every reached state

record Standing (s : State) : Type 0 where
  pub turns : ℕ
  pub ring : Opened turns s.table
  pub once : Once s
  pub weighed : AllWeighed s

standing_view : {s : State} {e : Call} → Good s → Made s e → Standing s → View e.own s e.datagram e.lent e.left → Standing (after e)
unfolding refused_as key_of turned opened_by kept_in keep_at
standing_view r m z (unheard n q) = subst (λ (y : Reception). Standing (left_by_call y)) (sym q) z
standing_view r m z (refuses heard low f q) = subst (λ (y : Reception). Standing (left_by_call y)) (sym q) z
standing_view {s} {e} r m z (keeps heard low f settled) =
    let w = wrote_held e.own s r e.datagram e.lent m.bytes heard e.left _ refl low f settled in
    let held : holds (place_at s.table (held_at s.table (key_of (fields_of e.datagram))))
    (key_of (fields_of e.datagram)) ≡ true = held_found s.table _ low in
    let range = range_from _ (place_fine s.table r.ranged _ low) in
    record {
      turns = z.turns;
      ring = ring_kept z.turns z.ring w (holds_some _ _ held);
      once = once_wrote w z.once (λ k l a. z.once k _ _ l low a held);
      weighed = weighed_wrote w z.weighed (weighed_settled s.table _ _ low r.places
          (still_open _ (fields_of e.datagram) f (holds_some _ _ held) range.condition) settled);
    }
standing_view {s} {e} r m z (opens heard high settled) =
    let w = wrote_opened e.own s r e.datagram e.lent m.bytes heard e.left _ settled in
    record {
      turns = z.turns + 1;
      ring = ring_opened z.turns z.ring w;
      once = once_wrote w z.once (λ k l a. clash a (held_absent s.table _ high k l));
      weighed = weighed_wrote w z.weighed (weighed_settled (turned s.table (open_at s.table)) _ _ w.below
          r.places refl settled);
    }

standing_run : {s u : State} {es : List Call} → Good s → Standing s → Run s es u → Standing u
standing_run r z start = z
standing_run r z (next e run m) = let g = good_run r run in standing_view g m (standing_run r z run) (see g m)

fresh_free : (i : ℕ) → i < four → place_at fresh_table i ≡ free_place
unfolding fresh_table place_at
fresh_free i l = get_or-replicate four i free_place free_place l

-- no place of a fresh table holds a number
pub none_held : (i n : ℕ) → i < four → holds (place_at fresh_table i) n ≡ false
unfolding holds
none_held i n l = ap (λ (p : Place). holds p n) (fresh_free i l)

standing_fresh : (b : List ℕ) → Standing (record { table = fresh_table; bytes = b })
standing_fresh b =
    record {
      turns = 0;
      ring = fresh_is_opened;
      once = λ i j n k l a c. clash a (none_held i n k);
      weighed = λ i l. subst Weighed (sym (fresh_free i l)) weighed_free;
    }

standing : {s : State} → Reached s → Standing s
standing c = standing_run (good_fresh c.lent c.all) (standing_fresh c.lent) c.run

-- in every reached state the table is in range and the lent bytes are all there
pub stays_in_range : StaysInRange
stays_in_range s c = let r = good_reached c in (r.ranged, r.whole)

-- every reached table is one after some count of openings, which go round the four places
pub goes-round : GoesRound
goes-round s c = let z = standing c in (z.turns, z.ring)

-- in every reached state no number is held in two places
pub held_once : HeldOnce
held_once s c = (standing c).once

-- in every reached state, what an open place holds does not suffice
pub open_waits : OpenWaits
open_waits s c i l = ((standing c).weighed i l).while_open

-- in every reached state, what a delivered or spoiled place holds suffices
pub closed_suffices : ClosedSuffices
closed_suffices s c i l = ((standing c).weighed i l).once_closed

-- ---- the fragments of a place do not overlap

-- of f fragments, of s bytes each and the last of l
parts : (f s l : ℕ) → f * s ≤ place → l ≤ place → ((s ≡ 0 → ⊥) → l ≤ s) → (f - 1) * s + l ≤ place
parts zero s l fits short less = omega (arith, zero-mul s)
parts (suc f) s l fits short less =
    let all : f * s + s ≤ place = omega arith in
    let one : suc f - 1 ≡ f = omega arith in
    let before : (suc f - 1) * s ≡ f * s = ap (λ (x : ℕ). x * s) one in
    same_or_not s 0 (λ e. omega (arith, before, ap (λ (x : ℕ). f * x) e, mul-zero f)) (λ some. omega (arith, before, less some))

-- in every reached state the fragments before the last end before the last begins, at the place's end
pub parts_apart : PartsApart
parts_apart s c i l =
    let r = range_from (place_at s.table i) (place_fine s.table (good_reached c).ranged i l) in
    parts (place_at s.table i).count (place_at s.table i).size (place_at s.table i).last r.size r.last r.less
