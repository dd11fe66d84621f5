-- What a walk comes to lies in the packet. Assumes nothing.
use Prim.Native.Nat.{ℕ, zero, suc, ◌+◌, ◌≤◌, min}
use mathlib.Core.List.{List, [], ◌∷◌}
use mathlib.Core.Path.{◌≡◌, refl, subst}
use mathlib.Core.Bool.{Bool, true, false, cond, ◌&&◌}
use native.Mathlib.Omega.{arith}
use native.Mathlib.Nat.{le_refl}
use lib.Dec.{eqb}
use lib.ListN.{length}
use borrow.Author.Tests.{eqb-true}
use Rattle.base_rules.specs.Tests.{among}
use Rattle.std.specs.Prelude.{Result, Ok, Err}
use Rattle.base_rules.specs.Refusal.{number}
use Rattle.base_rules.specs.declared.Refusal.{Refusal}
use Rattle.item_rules.specs.declared.Item.{Item}
use Rattle.item_rules.specs.declared.Repeats.{Repeats}
use Rattle.item_rules.specs.declared.Step.{Step}
use Rattle.item_rules.specs.declared.Step.TheVariants as step
use Rattle.item_rules.specs.Item.{step_in}
use Rattle.item_rules.specs.Run.{Run, item, padding, refused, next_of, on_step, run_in, run_of, forbids}
use Rattle.item_rules.proofs.Starts.{starts_at, starts_inside}
use Rattle.walk_rules.specs.declared.Handed.{Handed}
use Rattle.walk_rules.specs.declared.Handed.TheVariants as handed
use Rattle.walk_rules.specs.declared.Walked.{Walked}
use Rattle.walk_rules.specs.Names.{deepest, names_of, names_fault}
use Rattle.walk_rules.specs.Walk.{Tour, visit, ends, stops, unless, and_then, walk_fault, tour_by, tour_at, walk_of}
use Rattle.walk_rules.specs.Step.{end_of, step_from}
use Rattle.walk_rules.specs.Claims.{Within, Visits, more, end, stop, WalkInside, StepInside}
use Rattle.walk_rules.proofs.StepLaws.{by_steps, by_walker, end_within}
use Rattle.walk_rules.proofs.PlainWalks.{not_too_deep}

module _ (s : List ℕ) where
  -- an item that stands before an end within s
  stands : (at b d : ℕ) (i : Item) → b ≤ length s → d ≤ deepest → step_in s at b ≡ Ok (step.Item i) → Within s d i
  stands at b d i h k e = record { starts = (starts_at s at b i h e).0; shallow = k }

  -- one that is within s ends within it
  pub ends_within : {d : ℕ} (i : Item) → Within s d i → next_of i ≤ length s
  ends_within i w = starts_inside s i w.starts

  -- ---- a whole walk

  -- each item of a run stands in s
  pub data Items : Run → Type 0 where
    more_items : {i : Item} {r : Run} → Within s 0 i → Items r → Items (item i r)
    no_items : {p : ℕ} → Items (padding p)
    bad_item : {n : ℕ} → Items (refused n)

  items_in : (n at b : ℕ) → b ≤ length s → Items (run_in n s at b)
  unfolding run_in
  items_in zero at b h = no_items
  items_in (suc n) at b h = go (λ j. items_in n j b h) (step_in s at b) refl
    where
      go : ((j : ℕ) → Items (run_in n s j b)) → (t : Result Step Refusal) → step_in s at b ≡ t
          → Items (on_step t (λ i. item i (run_in n s (next_of i) b)) padding (λ x. refused (number x)))
      go behind (Ok (step.Item i)) e = more_items (stands at b 0 i h (omega arith) e) (behind (next_of i))
      go behind (Ok (step.End p)) e = no_items
      go behind (Err m) e = bad_item

  -- each item of a run that ends within s is one of s
  pub run_items : (at b : ℕ) → b ≤ length s → Items (run_of s at b)
  unfolding run_of
  run_items at b h = items_in _ at b h

  -- the walks that are put together
  visits_unless : (n : ℕ) (t : Tour) → (n ≡ 0 → Visits (Within s) t) → Visits (Within s) (unless n t)
  visits_unless n t h = go (eqb n 0) refl
    where
      go : (b : Bool) → eqb n 0 ≡ b → Visits (Within s) (cond b t (stops n))
      go true q = h (eqb-true n 0 q)
      go false q = stop

  visits_then : (t u : Tour) → Visits (Within s) t → Visits (Within s) u → Visits (Within s) (and_then t u)
  unfolding and_then
  visits_then (visit d i t) u (more p v) w = more p (visits_then t u v w)
  visits_then (ends p) u v w = w
  visits_then (stops n) u v w = visits_unless n u (λ z. w)

  module _ (word : Repeats) (inner : Item → Tour) (cs : List ℕ) (d : ℕ) (deeper : (i : Item) → next_of i ≤ length s → Visits (Within s) (inner i)) where
    contents : (b : Bool) (i : Item) → next_of i ≤ length s → Visits (Within s) (cond b (inner i) (ends 0))
    contents true i h = deeper i h
    contents false i h = end

    visits_by : (seen : List ℕ) (r : Run) → Items r → Visits (Within s) (tour_by word inner cs d seen r)
    unfolding tour_by
    visits_by seen (item i r) (more_items p v) =
        visits_unless (walk_fault cs d (forbids word && among i.name seen) i) _ (λ z.
        let shallow = not_too_deep cs d (forbids word && among i.name seen) i z in
        more (record { starts = p.starts; shallow = shallow })
        (visits_then _ _ (contents (among i.name cs) i (ends_within i p)) (visits_by (i.name ∷ seen) r v)))
    visits_by seen (padding p) v = end
    visits_by seen (refused n) v = stop

  visits_at : (word : Repeats) (k : ℕ) (cs : List ℕ) (d : ℕ) (seen : List ℕ) (r : Run) → Items r → Visits (Within s) (tour_at word k s cs d seen r)
  unfolding tour_at
  visits_at word zero cs d seen r v = visits_by word (λ i. ends 0) cs d (λ i h. end) seen r v
  visits_at word (suc k) cs d seen r v =
      visits_by word (λ i. tour_at word k s cs (d + 1) [] (run_of s i.from (next_of i))) cs d
      (λ i h. visits_at word k cs (d + 1) [] (run_of s i.from (next_of i)) (run_items i.from (next_of i) h)) seen r v

-- each item that a walk comes to lies in the packet, at no depth below the deepest
pub walk_inside : WalkInside
unfolding walk_of
walk_inside word s l =
    visits_unless s (names_fault l) _ (λ z. visits_at s word (deepest + 1) (names_of l) 0 [] _ (run_items s 0 (length s) (le_refl (length s))))

-- ---- a step

-- what a step hands out, where it is an item, lies in the packet
abbrev HandedIn : List ℕ → Result Handed ℕ → Type 0
HandedIn s (Ok (handed.Item v)) = Within s v.depth v.item
HandedIn s (Ok (handed.End p)) = Unit {0}
HandedIn s (Err n) = Unit {0}

from_inside : (s cs es : List ℕ) (d at : ℕ) → d ≤ deepest → HandedIn s (step_from s cs at d es).handed
from_inside s cs es =
    by_steps s cs es (λ (x : Walked). HandedIn s x.handed) (λ (at d : ℕ). d ≤ deepest)
    (λ at d i shallow e. stands s at (end_of s es d) d i (end_within s es d) shallow e)
    (λ at p shallow e. tt)
    (λ at d n shallow e. tt)
    (λ at d shallow. omega arith)

-- each item that a step hands out lies in the packet, from any walker
pub step_inside : StepInside
step_inside s l w v e =
    subst (HandedIn s) e
    (by_walker (λ (x : Walked). HandedIn s x.handed) s l w
    (from_inside s (names_of l) w.ends (min w.depth deepest) w.at (omega arith)) (λ n. tt))
