-- The walk with no fault looked for: what a walk is that is not refused.
use Prim.Native.Nat.{ℕ, zero, suc, ◌+◌, ◌%◌, ◌≤◌, ◌<◌}
use mathlib.Core.List.{List, [], ◌∷◌}
use mathlib.Core.Path.{◌≡◌, refl, sym, ap, ◌∙◌}
use mathlib.Core.Bool.{Bool, true, false, cond, not, ◌&&◌}
use native.Mathlib.Omega.{arith}
use lib.Dec.{eqb, ltb}
use borrow.Author.Tests.{eq-eqb, eqb-true, eqb-false, ltb-false}
use Rattle.base_rules.specs.Tests.{among}
use Rattle.base_rules.proofs.Firsts.{clear, clear_rest}
use Rattle.item_rules.specs.declared.Item.{Item}
use Rattle.item_rules.specs.declared.Repeats.{Repeats}
use Rattle.item_rules.specs.Run.{Run, item, padding, refused, next_of, run_of, or_else, fault_of, forbids}
use Rattle.walk_rules.specs.Names.{deepest}
use Rattle.walk_rules.specs.Walk.{Tour, visit, ends, stops, unless, and_then, walk_fault, tour_by, tour_at, refusal}
use Rattle.walk_rules.proofs.Refusals.{then_refusal, unless_refusal}

plain_by : (Item → Tour) → List ℕ → ℕ → Run → Tour
plain_by inner cs d (item i r) = visit d i (and_then (cond (among i.name cs) (inner i) (ends 0)) (plain_by inner cs d r))
plain_by inner cs d (padding p) = ends p
plain_by inner cs d (refused n) = stops n

-- the walk of a run of s at depth d, with so many levels left below it
pub plain_at : ℕ → List ℕ → List ℕ → ℕ → Run → Tour
plain_at zero s cs d r = plain_by (λ i. ends 0) cs d r
plain_at (suc k) s cs d r = plain_by (λ i. plain_at k s cs (d + 1) (run_of s i.from (next_of i))) cs d r

-- by what stands at the start of the run
module _ (s cs : List ℕ) where
  -- the contents of an item, with so many levels left
  unfoldable pub contents_of : ℕ → ℕ → Item → Tour
  contents_of zero d i = ends 0
  contents_of (suc k) d i = cond (among i.name cs) (plain_at k s cs (d + 1) (run_of s i.from (next_of i))) (ends 0)

  same : (b : Bool) (t : Tour) → cond b t t ≡ t
  same true t = refl
  same false t = refl

  -- from an item on: that item, its contents, and then the walk of what is behind it
  pub plain-item : (k d : ℕ) (i : Item) (r : Run) → plain_at k s cs d (item i r) ≡ visit d i (and_then (contents_of k d i) (plain_at k s cs d r))
  unfolding plain_at plain_by contents_of
  plain-item zero d i r = ap (λ (t : Tour). visit d i (and_then t (plain_by (λ i. ends 0) cs d r))) (same (among i.name cs) (ends 0))
  plain-item (suc k) d i r = refl

  -- from padding on: only the end, with that padding
  pub plain_end : (k d p : ℕ) → plain_at k s cs d (padding p) ≡ ends p
  unfolding plain_at plain_by
  plain_end zero d p = refl
  plain_end (suc k) d p = refl

  -- from a refused item on: only that refusal
  pub plain-refused : (k d n : ℕ) → plain_at k s cs d (refused n) ≡ stops n
  unfolding plain_at plain_by
  plain-refused zero d n = refl
  plain-refused (suc k) d n = refl

-- where neither of two numbers is due, the first is not,
pub or_left : (a b : ℕ) → or_else a b ≡ 0 → a ≡ 0
or_left a b q = go (eqb a 0) refl q
  where
    go : (x : Bool) → eqb a 0 ≡ x → cond x b a ≡ 0 → a ≡ 0
    go true e r = eqb-true a 0 e
    go false e r = r

-- the second is not due either
pub or_right : (a b : ℕ) → or_else a b ≡ 0 → b ≡ 0
or_right a b q = ap (λ (x : Bool). cond x b a) (sym (eq-eqb a 0 (or_left a b q))) ∙ q

-- a walk with a test before it that is not refused: the test has no number, and it is that walk
pub not_tested : (n : ℕ) (t : Tour) → refusal (unless n t) ≡ 0 → (unless n t ≡ t) × (refusal t ≡ 0)
not_tested n t q =
    let h = sym (unless_refusal n t) ∙ q in
    (simp (eq-eqb n 0 (or_left n (refusal t) h)), or_right n (refusal t) h)

-- below the deepest level every item is at fault
pub not_too_deep : (cs : List ℕ) (d : ℕ) (b : Bool) (i : Item) → walk_fault cs d b i ≡ 0 → d ≤ deepest
unfolding walk_fault
not_too_deep cs d b i q =
    let r = or_right (fault_of b i) _ q in
    ltb-false deepest d (clear (ltb deepest d) 32 [] (eqb-false 32 0 refl)
    (clear_rest (among i.name cs && not (eqb (i.bits.0 % 8) 0)) 35 _ (eqb-false 35 0 refl) r))

module _ (word : Repeats) (s cs : List ℕ) where
  -- where a run is walked with no refusal, its items have no fault, and their contents and what is behind them none
  pub parts : (inner : Item → Tour) (d : ℕ) (seen : List ℕ) (i : Item) (r : Run) → refusal (tour_by word inner cs d seen (item i r)) ≡ 0
      → (walk_fault cs d (forbids word && among i.name seen) i ≡ 0) × (refusal (cond (among i.name cs) (inner i) (ends 0)) ≡ 0)
      × (refusal (tour_by word inner cs d (i.name ∷ seen) r) ≡ 0)
  unfolding tour_by refusal
  parts inner d seen i r q =
      let w = walk_fault cs d (forbids word && among i.name seen) i in
      let c = cond (among i.name cs) (inner i) (ends 0) in
      let u = tour_by word inner cs d (i.name ∷ seen) r in
      let h = sym (unless_refusal w _) ∙ q in
      let k = sym (then_refusal c _) ∙ or_right w _ h in
      (or_left w _ h, or_left (refusal c) (refusal u) k, or_right (refusal c) (refusal u) k)

  plain_by_lem : (inner inner' : Item → Tour) (d : ℕ) → ((i : Item) → refusal (inner i) ≡ 0 → (u : Tour) → and_then (inner i) u ≡ and_then (inner' i) u)
      → (seen : List ℕ) (r : Run) → refusal (tour_by word inner cs d seen r) ≡ 0 → tour_by word inner cs d seen r ≡ plain_by inner' cs d r
  unfolding tour_by plain_by
  plain_by_lem inner inner' d h seen (item i r) q =
      let p = parts inner d seen i r q in
      simp p.0 (ap (visit d i) (ap (and_then (cond (among i.name cs) (inner i) (ends 0)))
      (plain_by_lem inner inner' d h (i.name ∷ seen) r p.2) ∙ go (among i.name cs) p.1))
    where
      go : (b : Bool) → refusal (cond b (inner i) (ends 0)) ≡ 0
          → and_then (cond b (inner i) (ends 0)) (plain_by inner' cs d r) ≡ and_then (cond b (inner' i) (ends 0)) (plain_by inner' cs d r)
      go true e = h i e (plain_by inner' cs d r)
      go false e = refl
  plain_by_lem inner inner' d h seen (padding p) q = refl
  plain_by_lem inner inner' d h seen (refused n) q = refl

  beyond : (d : ℕ) → deepest < d → d ≤ deepest → ⊥
  beyond d h k = omega arith

  -- below the deepest level nothing stands but padding
  deep_ends : (inner : Item → Tour) (d : ℕ) (seen : List ℕ) (r : Run) → deepest < d → refusal (tour_by word inner cs d seen r) ≡ 0 → (u : Tour)
      → and_then (tour_by word inner cs d seen r) u ≡ u
  unfolding tour_by refusal and_then
  deep_ends inner d seen (item i r) h q u = absurd (beyond d h (not_too_deep cs d (forbids word && among i.name seen) i (parts inner d seen i r q).0))
  deep_ends inner d seen (padding p) h q u = refl
  deep_ends inner d seen (refused n) h q u = simp q

  next_level : (d k : ℕ) → d + suc k ≡ deepest → d + 1 + k ≡ deepest
  next_level d k h = omega arith

  -- a walk that is not refused is the one with no fault looked for
  pub plain : (k d : ℕ) (seen : List ℕ) (r : Run) → d + k ≡ deepest → refusal (tour_at word (suc k) s cs d seen r) ≡ 0
      → tour_at word (suc k) s cs d seen r ≡ plain_at k s cs d r
  unfolding tour_at plain_at and_then
  plain zero d seen r h q =
      plain_by_lem (λ i. tour_at word 0 s cs (d + 1) [] (run_of s i.from (next_of i))) (λ i. ends 0) d
      (λ i e u. deep_ends (λ i. ends 0) (d + 1) [] (run_of s i.from (next_of i)) (omega arith) e u) seen r q
  plain (suc k) d seen r h q =
      plain_by_lem (λ i. tour_at word (suc k) s cs (d + 1) [] (run_of s i.from (next_of i))) (λ i. plain_at k s cs (d + 1) (run_of s i.from (next_of i))) d
      (λ i e u. ap (λ (t : Tour). and_then t u) (plain k (d + 1) [] (run_of s i.from (next_of i)) (next_level d k h) e)) seen r q
