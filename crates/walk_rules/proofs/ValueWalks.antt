-- A part of the bytes walked as a packet of its own: the same walk, with each place moved. Assumes nothing.
use Prim.Native.Nat.{ℕ, zero, suc, ◌+◌, ◌≤◌}
use mathlib.Core.List.{List, [], ◌∷◌}
use mathlib.Core.Path.{◌≡◌, refl, sym, ap, ◌∙◌}
use mathlib.Core.Bool.{Bool, true, false, cond, ◌&&◌}
use native.Mathlib.Omega.{arith}
use native.Mathlib.Nat.{le_refl}
use lib.Dec.{eqb}
use lib.ListN.{length, drop, length-take}
use Rattle.base_rules.specs.Tests.{among}
use Rattle.item_rules.specs.declared.Item.{Item}
use Rattle.item_rules.specs.declared.Repeats.{Repeats}
use Rattle.item_rules.specs.Run.{Run, item, padding, refused, next_of, run_of, fault_of, forbids}
use Rattle.walk_rules.specs.Walk.{Tour, visit, ends, stops, unless, and_then, walk_fault, tour_by, tour_at}
use Rattle.walk_rules.specs.Claims.{moved_item, moved_run, moved_tour, ValueWalked}
use Rattle.walk_rules.proofs.Inside.{ends_within, Items, more_items, no_items, bad_item, run_items}
use Rattle.walk_rules.proofs.Values.{part, run_moved, value_as_packet}

-- a walk that is put together of two is moved with both
module _ (k : ℕ) where
  moved_unless : (n : ℕ) (t : Tour) → moved_tour k (unless n t) ≡ unless n (moved_tour k t)
  unfolding moved_tour
  moved_unless n t = go (eqb n 0)
    where
      go : (b : Bool) → moved_tour k (cond b t (stops n)) ≡ cond b (moved_tour k t) (stops n)
      go true = refl
      go false = refl

  moved_then : (t u : Tour) → moved_tour k (and_then t u) ≡ and_then (moved_tour k t) (moved_tour k u)
  unfolding moved_tour and_then
  moved_then (visit d i t) u = ap (visit d (moved_item k i)) (moved_then t u)
  moved_then (ends p) u = refl
  moved_then (stops n) u = moved_unless n u

-- an item's fault is not of its place
fault_moved : (k : ℕ) (cs : List ℕ) (d : ℕ) (b : Bool) (i : Item) → walk_fault cs d b (moved_item k i) ≡ walk_fault cs d b i
unfolding walk_fault fault_of
fault_moved k cs d b i = refl

-- the n bytes of s from k on, walked as v and where they stand in s
module _ (word : Repeats) (s : List ℕ) (k n : ℕ) where
  abbrev v : List ℕ
  v = part s k n

  module _ (inner inner' : Item → Tour) (cs : List ℕ) (d : ℕ)
      (same : (i : Item) → next_of i ≤ length v → inner' (moved_item k i) ≡ moved_tour k (inner i)) where
    contents : (b : Bool) (i : Item) → next_of i ≤ length v → cond b (inner' (moved_item k i)) (ends 0) ≡ moved_tour k (cond b (inner i) (ends 0))
    unfolding moved_tour
    contents true i h = same i h
    contents false i h = refl

    moved_by_lem : (seen : List ℕ) (r : Run) → Items v r → tour_by word inner' cs d seen (moved_run k r) ≡ moved_tour k (tour_by word inner cs d seen r)
    unfolding tour_by moved_run moved_tour
    moved_by_lem seen (item i r) (more_items p rest) =
        let w : ℕ = walk_fault cs d (forbids word && among i.name seen) i in
        let t : Tour = cond (among i.name cs) (inner i) (ends 0) in
        let u : Tour = tour_by word inner cs d (i.name ∷ seen) r in
        let u' : Tour = tour_by word inner' cs d (i.name ∷ seen) (moved_run k r) in
        let behind : u' ≡ moved_tour k u = moved_by_lem (i.name ∷ seen) r rest in
        ap (λ (m : ℕ). unless m (visit d (moved_item k i) (and_then (cond (among i.name cs) (inner' (moved_item k i)) (ends 0)) u')))
        (fault_moved k cs d (forbids word && among i.name seen) i)
        ∙ ap (λ (x : Tour). unless w (visit d (moved_item k i) (and_then x u'))) (contents (among i.name cs) i (ends_within v i p))
        ∙ ap (λ (x : Tour). unless w (visit d (moved_item k i) (and_then (moved_tour k t) x))) behind
        ∙ ap (λ (x : Tour). unless w (visit d (moved_item k i) x)) (sym (moved_then k t u))
        ∙ sym (moved_unless k w (visit d i (and_then t u)))
    moved_by_lem seen (padding p) no_items = refl
    moved_by_lem seen (refused m) bad_item = refl

  -- the run inside an item of the part
  inner_run : (i : Item) → next_of i ≤ length v → run_of s (k + i.from) (k + i.from + i.len.0) ≡ moved_run k (run_of v i.from (next_of i))
  inner_run i h =
      let next : k + i.from + i.len.0 ≡ k + next_of i = omega arith in
      ap (run_of s (k + i.from)) next ∙ run_moved s k n i.from (next_of i) (omega (arith, length-take n (drop k s)))

  tour_moved : (levels : ℕ) (cs : List ℕ) (d : ℕ) (seen : List ℕ) (r : Run) → Items v r
      → tour_at word levels s cs d seen (moved_run k r) ≡ moved_tour k (tour_at word levels v cs d seen r)
  unfolding tour_at moved_tour
  tour_moved zero cs d seen r all = moved_by_lem (λ i. ends 0) (λ i. ends 0) cs d (λ i h. refl) seen r all
  tour_moved (suc levels) cs d seen r all =
      moved_by_lem (λ i. tour_at word levels v cs (d + 1) [] (run_of v i.from (next_of i)))
      (λ i. tour_at word levels s cs (d + 1) [] (run_of s i.from (next_of i))) cs d
      (λ i h.
      ap (tour_at word levels s cs (d + 1) []) (inner_run i h)
      ∙ tour_moved levels cs (d + 1) [] (run_of v i.from (next_of i)) (run_items v i.from (next_of i) h))
      seen r all

-- the walk inside an item is that of its value by itself, with each place moved
pub value_walked : ValueWalked
value_walked word s cs levels d i h =
    let w : List ℕ = part s i.from i.len.0 in
    ap (tour_at word levels s cs d []) (value_as_packet s i h)
    ∙ tour_moved word s i.from i.len.0 levels cs d [] (run_of w 0 (length w)) (run_items w 0 (length w) (le_refl (length w)))
