-- The walk where names may repeat, beside the one where they may not. Assumes nothing.
use Prim.Native.Nat.{ℕ, zero, suc, ◌+◌, ◌%◌}
use mathlib.Core.Bool.{Bool, true, false, cond, not, ◌&&◌}
use mathlib.Core.List.{List, [], ◌∷◌}
use mathlib.Core.Path.{◌≡◌, refl, sym, ap, ◌∙◌}
use native.Mathlib.Omega.{arith}
use lib.Dec.{eqb, ltb}
use lib.ListN.{length}
use borrow.Author.Tests.{ne_eqb, eqb-true, eqb-false}
use Rattle.base_rules.specs.Tests.{first, among}
use Rattle.base_rules.proofs.Logic.{either}
use Rattle.item_rules.specs.declared.Item.{Item}
use Rattle.item_rules.specs.declared.Repeats.TheVariants.{Forbidden, Allowed}
use Rattle.item_rules.specs.Run.{Run, item, padding, refused, next_of, run_of, fault_of, or_else, forbids}
use Rattle.item_rules.proofs.Runs.{every-run}
use Rattle.item_rules.proofs.Faults.{fault_still, fault_never}
use Rattle.item_rules.proofs.Repeated.{or-never}
use Rattle.walk_rules.specs.Names.{deepest, names_of, names_fault}
use Rattle.walk_rules.specs.Walk.{Tour, visit, ends, stops, unless, and_then, walk_fault, tour_by, tour_at, refusal, walk_of}
use Rattle.walk_rules.specs.Claims.{AsItWas, NoTwice, AcceptedStill}
use Rattle.walk_rules.proofs.ContainerNames.{fault_is}
use Rattle.walk_rules.proofs.Refusals.{then_refusal, unless_refusal, by_item}

-- where repeats are forbidden, a name counts that has stood before
pub as_it_was : AsItWas
unfolding tour_at tour_by forbids
as_it_was s cs levels d seen i r = refl

-- ---- no walk is refused with 31

-- neither 35 nor 32 is 31
others-never : (x y : Bool) → first ((x, 35) ∷ (y, 32) ∷ []) ≡ 31 → ⊥
unfolding first
others-never true y q = omega arith
others-never false true q = omega arith
others-never false false q = omega arith

walk_fault_never : (cs : List ℕ) (d : ℕ) (i : Item) → walk_fault cs d false i ≡ 31 → ⊥
unfolding walk_fault
walk_fault_never cs d i = or-never 31 (fault_of false i) _ (fault_never i) (others-never (among i.name cs && not (eqb (i.bits.0 % 8) 0)) (ltb deepest d))

within-never : (b : Bool) (n : ℕ) → (n ≡ 31 → ⊥) → cond b n 0 ≡ 31 → ⊥
within-never true n h q = h q
within-never false n h q = omega arith

module _ (s cs : List ℕ) where
  abbrev Never : (Item → Tour) → ℕ → ℕ → Run → Type 0
  Never inner d at r = (seen : List ℕ) → refusal (tour_by Allowed inner cs d seen r) ≡ 31 → ⊥

  -- the walk of a run is not, where those of its containers are not
  never_by : (inner : Item → Tour) (d at end : ℕ) → ((i : Item) → refusal (inner i) ≡ 31 → ⊥) → Never inner d at (run_of s at end)
  unfolding tour_by refusal forbids
  never_by inner d at end none =
      every-run s end (Never inner d)
      (λ at i e behind seen q.
      let r : Run = run_of s (next_of i) end in
      let own = or-never 31 (walk_fault cs d false i) _ (walk_fault_never cs d i) (within-never (among i.name cs) (refusal (inner i)) (none i)) in
      or-never 31 _ (refusal (tour_by Allowed inner cs d (i.name ∷ seen) r)) own (behind (i.name ∷ seen)) (sym (by_item Allowed inner cs d seen i r) ∙ q))
      (λ at p few left seen q. let z : ◌≡◌ {A = ℕ} 0 31 = q in omega arith)
      (λ at seen q. let z : ◌≡◌ {A = ℕ} 30 31 = q in omega arith) at

  never_at : (k d at end : ℕ) (seen : List ℕ) → refusal (tour_at Allowed k s cs d seen (run_of s at end)) ≡ 31 → ⊥
  unfolding tour_at refusal
  never_at zero d at end = never_by (λ i. ends 0) d at end (λ i q. let z : ◌≡◌ {A = ℕ} 0 31 = q in omega arith)
  never_at (suc k) d at end =
      never_by (λ i. tour_at Allowed k s cs (d + 1) [] (run_of s i.from (next_of i))) d at end (λ i. never_at k (d + 1) i.from (next_of i) [])

names_never : (l : List ℕ) → names_fault l ≡ 31 → ⊥
names_never l q = omega (arith, q, fault_is l (λ z. omega (arith, z, q)))

-- where names may repeat, no walk is refused with 31
pub no_twice : NoTwice
unfolding walk_of
no_twice s l q =
    let t : Tour = tour_at Allowed (deepest + 1) s (names_of l) 0 [] (run_of s 0 (length s)) in
    or-never 31 (names_fault l) (refusal t) (names_never l) (never_at s (names_of l) (deepest + 1) 0 0 (length s) []) (sym (unless_refusal (names_fault l) t) ∙ q)

-- ---- a walk that is not refused with 31 is the same with either word

walk_fault_still : (cs : List ℕ) (d : ℕ) (b : Bool) (i : Item) → (walk_fault cs d b i ≡ 31 → ⊥) → walk_fault cs d false i ≡ walk_fault cs d b i
unfolding walk_fault
walk_fault_still cs d b i h =
    ap (λ (n : ℕ). or_else n (first ((among i.name cs && not (eqb (i.bits.0 % 8) 0), 35) ∷ (ltb deepest d, 32) ∷ [])))
    (fault_still b i (λ q. h (simp q)))

-- behind a walk that is refused nothing is looked at
then_stops : (t u u' : Tour) → (refusal t ≡ 0 → ⊥) → and_then t u ≡ and_then t u'
unfolding and_then refusal
then_stops (visit d i t) u u' h = ap (visit d i) (then_stops t u u' h)
then_stops (ends p) u u' h = absurd (h refl)
then_stops (stops n) u u' h = simp (ne_eqb n 0 h)

-- a walk of two parts, where the first is the same unless it is refused with 31, and so is the second
then_still : (t t' u u' : Tour) → (or_else (refusal t) (refusal u) ≡ 31 → ⊥) → ((refusal t ≡ 31 → ⊥) → t' ≡ t)
    → ((refusal u ≡ 31 → ⊥) → u' ≡ u) → and_then t' u' ≡ and_then t u
then_still t t' u u' h p q =
    either (eqb (refusal t) 0)
    (λ z.
    ap (λ (x : Tour). and_then x u') (p (λ e. omega (arith, e, eqb-true (refusal t) 0 z))) ∙ ap (and_then t) (q (λ e. h (simp z e))))
    (λ f. ap (λ (x : Tour). and_then x u') (p (λ e. h (simp f e))) ∙ then_stops t u' u (eqb-false (refusal t) 0 f))

-- so it is of one with a test before it
unless_still : (n : ℕ) (t t' : Tour) → (or_else n (refusal t) ≡ 31 → ⊥) → ((refusal t ≡ 31 → ⊥) → t' ≡ t) → unless n t' ≡ unless n t
unless_still n t t' h p = either (eqb n 0) (λ z. simp z (p (λ e. h (simp z e)))) (λ f. simp f)

module _ (cs : List ℕ) (d : ℕ) (inner inner' : Item → Tour) (same : (i : Item) → (refusal (inner i) ≡ 31 → ⊥) → inner' i ≡ inner i) where
  contents_still : (b : Bool) (i : Item) → (refusal (cond b (inner i) (ends 0)) ≡ 31 → ⊥) → cond b (inner' i) (ends 0) ≡ cond b (inner i) (ends 0)
  contents_still true i h = same i h
  contents_still false i h = refl

  still_by : (seen : List ℕ) (r : Run) → (refusal (tour_by Forbidden inner cs d seen r) ≡ 31 → ⊥)
      → tour_by Allowed inner' cs d seen r ≡ tour_by Forbidden inner cs d seen r
  unfolding tour_by forbids refusal
  still_by seen (item i r) h =
      let f : ℕ = walk_fault cs d (among i.name seen) i in
      let c : Tour = cond (among i.name cs) (inner i) (ends 0) in
      let u : Tour = tour_by Forbidden inner cs d (i.name ∷ seen) r in
      let c' : Tour = cond (among i.name cs) (inner' i) (ends 0) in
      let u' : Tour = tour_by Allowed inner' cs d (i.name ∷ seen) r in
      let number : refusal (unless f (visit d i (and_then c u))) ≡ or_else f (refusal (and_then c u)) = unless_refusal f (visit d i (and_then c u)) in
      ap (λ (n : ℕ). unless n (visit d i (and_then c' u'))) (walk_fault_still cs d (among i.name seen) i (λ q. h (number ∙ simp q)))
      ∙ unless_still f (visit d i (and_then c u)) (visit d i (and_then c' u')) (λ q. h (number ∙ q)) (λ none.
      ap (visit d i) (then_still c c' u u' (λ q. none (then_refusal c u ∙ q)) (contents_still (among i.name cs) i) (still_by (i.name ∷ seen) r)))
  still_by seen (padding p) h = refl
  still_by seen (refused n) h = refl

still_at : (s cs : List ℕ) (k d : ℕ) (seen : List ℕ) (r : Run) → (refusal (tour_at Forbidden k s cs d seen r) ≡ 31 → ⊥)
    → tour_at Allowed k s cs d seen r ≡ tour_at Forbidden k s cs d seen r
unfolding tour_at
still_at s cs zero d seen r = still_by cs d (λ i. ends 0) (λ i. ends 0) (λ i h. refl) seen r
still_at s cs (suc k) d seen r =
    still_by cs d (λ i. tour_at Forbidden k s cs (d + 1) [] (run_of s i.from (next_of i)))
    (λ i. tour_at Allowed k s cs (d + 1) [] (run_of s i.from (next_of i)))
    (λ i. still_at s cs k (d + 1) [] (run_of s i.from (next_of i))) seen r

-- its items and how it ends
pub accepted_still : AcceptedStill
unfolding walk_of
accepted_still s l h =
    let t : Tour = tour_at Forbidden (deepest + 1) s (names_of l) 0 [] (run_of s 0 (length s)) in
    unless_still (names_fault l) t (tour_at Allowed (deepest + 1) s (names_of l) 0 [] (run_of s 0 (length s)))
    (λ q. h (unless_refusal (names_fault l) t ∙ q)) (still_at s (names_of l) (deepest + 1) 0 [] (run_of s 0 (length s)))
