-- What refuses the nested walk, item by item.
use Prim.Native.Nat.{ℕ, zero, suc, ◌+◌, ◌-◌, ◌%◌, ◌≤◌, ◌<◌}
use mathlib.Core.List.{List, [], ◌∷◌}
use mathlib.Core.Path.{◌≡◌, refl, sym, ap, ◌∙◌}
use mathlib.Core.Bool.{Bool, true, false, cond, not, ◌&&◌}
use native.Mathlib.Omega.{arith}
use lib.ListN.{length, get_or, set}
use lib.Dec.{eqb, ltb}
use borrow.Author.Tests.{eq-eqb, ne_eqb, lt-ltb, le-ltb, eqb-true}
use Rattle.base_rules.specs.Tests.{first, among}
use Rattle.base_rules.proofs.Firsts.{due, skip, none_due}
use Rattle.std.specs.Prelude.{Ok, Err}
use Rattle.base_rules.specs.Refusal.{number}
use Rattle.base_rules.specs.declared.Refusal.{Refusal}
use Rattle.item_rules.specs.declared.Item.{Item}
use Rattle.item_rules.specs.declared.Repeats.{Repeats}
use Rattle.item_rules.specs.declared.Bytes.{Bytes}
use Rattle.item_rules.specs.declared.Step.TheVariants as step
use Rattle.item_rules.specs.Item.{step_in}
use Rattle.item_rules.specs.Run.{Run, item, padding, refused, next_of, run_of, first_of, fault_of, or_else, forbids, is_before, slots}
use Rattle.item_rules.proofs.Runs.{run_end, run-refused}
use Rattle.item_rules.proofs.Repeated.{counts}
use Rattle.item_rules.proofs.Seen.{Seen, ByItem, again, turn, stops}
use Rattle.walk_rules.specs.Names.{deepest, names_of, names_fault}
use Rattle.walk_rules.specs.Walk.{Tour, visit, ends, stops as halts, unless, and_then, walk_fault, tour_by, tour_at, refusal, walk_of}
use Rattle.walk_rules.specs.inner.Whole.{item_refusal}

-- what refuses two walks, one after the other
pub then_refusal : (t u : Tour) → refusal (and_then t u) ≡ or_else (refusal t) (refusal u)
unfolding and_then refusal
then_refusal (visit d i t) u = then_refusal t u
then_refusal (ends p) u = refl
then_refusal (halts n) u = go (eqb n 0)
  where
    go : (b : Bool) → refusal (cond b u (halts n)) ≡ cond b (refusal u) n
    go true = refl
    go false = refl

-- a walk with a test before it is refused with the test's number, or if that is 0 with its own
pub unless_refusal : (n : ℕ) (t : Tour) → refusal (unless n t) ≡ or_else n (refusal t)
unfolding refusal
unless_refusal n t = go (eqb n 0)
  where
    go : (b : Bool) → refusal (cond b t (halts n)) ≡ cond b (refusal t) n
    go true = refl
    go false = refl

within_refusal : (b : Bool) (t : Tour) → refusal (cond b t (ends 0)) ≡ cond b (refusal t) 0
unfolding refusal
within_refusal true t = refl
within_refusal false t = refl

or_assoc : (a b c : ℕ) → or_else a (or_else b c) ≡ or_else (or_else a b) c
or_assoc a b c = go (eqb a 0) refl
  where
    go : (x : Bool) → eqb a 0 ≡ x → cond x (or_else b c) a ≡ or_else (cond x b a) c
    go true q = refl
    go false q = simp q

or_none : (n : ℕ) (b : Bool) → or_else n (cond b 0 0) ≡ n
or_none n b = go (eqb n 0) b refl
  where
    go : (x y : Bool) → eqb n 0 ≡ x → cond x (cond y 0 0) n ≡ n
    go true true q = sym (eqb-true n 0 q)
    go true false q = sym (eqb-true n 0 q)
    go false y q = refl

-- an item, its contents, and the items behind it
pub by_item : (word : Repeats) (inner : Item → Tour) (cs : List ℕ) (d : ℕ) (seen : List ℕ) (i : Item) (r : Run)
    → refusal (tour_by word inner cs d seen (item i r))
    ≡ or_else (or_else (walk_fault cs d (forbids word && among i.name seen) i) (cond (among i.name cs) (refusal (inner i)) 0))
    (refusal (tour_by word inner cs d (i.name ∷ seen) r))
unfolding tour_by refusal
by_item word inner cs d seen i r =
    let w = walk_fault cs d (forbids word && among i.name seen) i in
    let c = cond (among i.name cs) (inner i) (ends 0) in
    let u = tour_by word inner cs d (i.name ∷ seen) r in
    unless_refusal w _
    ∙ ap (or_else w) (then_refusal c _ ∙ ap (λ (n : ℕ). or_else n (refusal u)) (within_refusal (among i.name cs) (inner i)))
    ∙ or_assoc w (cond (among i.name cs) (refusal (inner i)) 0) (refusal u)

-- an item's part, by whether its name has stood before
abbrev refusal_by : Repeats → ℕ → List ℕ → List ℕ → ℕ → Bool → Item → ℕ
refusal_by word k s cs d before i = item_refusal word k s cs d (forbids word && before) i

walk_by_item : (word : Repeats) (k : ℕ) (s cs : List ℕ) (d : ℕ) → ByItem (λ seen r. refusal (tour_at word k s cs d seen r)) (refusal_by word k s cs d)
unfolding tour_at item_refusal refusal
walk_by_item word zero s cs d seen i r =
    by_item word (λ i. ends 0) cs d seen i r
    ∙ ap (λ (n : ℕ). or_else n (refusal (tour_by word (λ i. ends 0) cs d (i.name ∷ seen) r)))
    (or_none (walk_fault cs d (forbids word && among i.name seen) i) (among i.name cs))
walk_by_item word (suc k) s cs d seen i r = by_item word (λ i. tour_at word k s cs (d + 1) [] (run_of s i.from (next_of i))) cs d seen i r

-- an item's own fault, by the tests, where 31 and 33 are not due
module _ (cs : List ℕ) (d : ℕ) (b : Bool) (i : Item) (n : ℕ) (q : n ≡ fault_of b i) where
  -- an item with 31 or 33 due has that number, before the others of a walk
  pub own_first : (n ≡ 0 → ⊥) → n ≡ walk_fault cs d b i
  unfolding walk_fault
  own_first h = q ∙ sym (simp (ne_eqb (fault_of b i) 0 (λ z. h (q ∙ z))))

  module _ (z : n ≡ 0) where
    others : (m : ℕ) → m ≡ first ((among i.name cs && not (eqb (i.bits.0 % 8) 0), 35) ∷ (ltb deepest d, 32) ∷ []) → m ≡ walk_fault cs d b i
    unfolding walk_fault
    others m h = h ∙ sym (simp (eq-eqb (fault_of b i) 0 (sym q ∙ z)))

    -- a container that is not whole bytes has 35 WHOLE due, where 31 and 33 are not
    pub not_whole : among i.name cs ≡ true → (i.bits.0 % 8 ≡ 0 → ⊥) → 35 ≡ walk_fault cs d b i
    not_whole a h = others 35 (due _ _ (simp (a, ne_eqb (i.bits.0 % 8) 0 h)))

    module _ (w : among i.name cs && not (eqb (i.bits.0 % 8) 0) ≡ false) where
      -- an item below the deepest level has 32 DEPTH due, where 31, 33 and 35 are not
      pub too_deep : deepest < d → 32 ≡ walk_fault cs d b i
      too_deep h = others 32 (skip _ _ w (due _ _ (lt-ltb deepest d h)))

      -- an item no deeper than the deepest level has no fault, where 31, 33 and 35 are not due
      pub no_fault : d ≤ deepest → 0 ≡ walk_fault cs d b i
      no_fault h = others 0 (skip _ _ w (skip _ _ (le-ltb deepest d h) none_due))

-- 35 is not due for a container of whole bytes
pub container_whole : (cs : List ℕ) (i : Item) → among i.name cs ≡ true → i.bits.0 % 8 ≡ 0
    → among i.name cs && not (eqb (i.bits.0 % 8) 0) ≡ false
container_whole cs i a h = simp (a, h)

-- 35 is not due for an item that is no container
pub no_container : (cs : List ℕ) (i : Item) → among i.name cs ≡ false → among i.name cs && not (eqb (i.bits.0 % 8) 0) ≡ false
no_container cs i a = simp a

-- an item's part: its own fault, else that of its contents
module _ (word : Repeats) (s cs : List ℕ) (d : ℕ) (b : Bool) (i : Item) where
  decides : (k : ℕ) → (walk_fault cs d b i ≡ 0 → ⊥) → item_refusal word k s cs d b i ≡ walk_fault cs d b i
  unfolding item_refusal
  decides zero h = refl
  decides (suc k) h = simp (ne_eqb (walk_fault cs d b i) 0 h)

  -- an item with a fault of its own has its number, whatever its contents are
  pub own : (k n : ℕ) → n ≡ walk_fault cs d b i → (n ≡ 0 → ⊥) → n ≡ item_refusal word k s cs d b i
  own k n q h = q ∙ sym (decides k (λ z. h (q ∙ z)))

  level : d ≤ deepest → deepest + 1 - d ≡ suc (deepest - d)
  level h = omega arith

  -- a container with no fault of its own has the number of the walk of its value, one deeper
  pub contents : (m : ℕ) → 0 ≡ walk_fault cs d b i → among i.name cs ≡ true → d ≤ deepest
      → m ≡ refusal (tour_at word (deepest - d) s cs (d + 1) [] (run_of s i.from (next_of i))) → m ≡ item_refusal word (deepest + 1 - d) s cs d b i
  unfolding item_refusal
  contents m z a l r = rw (level l) (r ∙ sym (simp (eq-eqb (walk_fault cs d b i) 0 (sym z), a)))

  -- an item that is no container and has no fault of its own has no number
  pub no_contents : 0 ≡ walk_fault cs d b i → among i.name cs ≡ false → d ≤ deepest → 0 ≡ item_refusal word (deepest + 1 - d) s cs d b i
  unfolding item_refusal
  no_contents z a l = rw (level l) (sym (simp (eq-eqb (walk_fault cs d b i) 0 (sym z), a)))

-- a container's value is a packet one deeper
pub one_deeper : (word : Repeats) (s cs : List ℕ) (d n from end : ℕ) → n ≡ refusal (tour_at word (deepest + 1 - (d + 1)) s cs (d + 1) [] (run_of s from end))
    → n ≡ refusal (tour_at word (deepest - d) s cs (d + 1) [] (run_of s from end))
one_deeper word s cs d n from end q =
    let z : deepest + 1 - (d + 1) ≡ deepest - d = omega arith in
    q ∙ ap (λ (k : ℕ). refusal (tour_at word k s cs (d + 1) [] (run_of s from end))) z

-- the whole walk: the list's fault, else what refuses the outer packet's walk
module _ (word : Repeats) (s l : List ℕ) (n : ℕ) (q : n ≡ names_fault l) where
  by_list : refusal (walk_of word s l) ≡ or_else (names_fault l) (refusal (tour_at word (deepest + 1) s (names_of l) 0 [] (run_of s 0 (length s))))
  unfolding walk_of
  by_list = unless_refusal (names_fault l) (tour_at word (deepest + 1) s (names_of l) 0 [] (run_of s 0 (length s)))

  -- a list of names with a fault refuses the walk with its number, whatever the packet is
  pub list_refused : (n ≡ 0 → ⊥) → n ≡ refusal (walk_of word s l)
  list_refused h = q ∙ sym (by_list ∙ simp (ne_eqb (names_fault l) 0 (λ z. h (q ∙ z))))

  -- with a list that has no fault, the number of the outer packet's walk is that of the whole
  pub list_taken : (m : ℕ) → n ≡ 0 → m ≡ refusal (tour_at word (deepest + 1) s (names_of l) 0 [] (run_of s 0 (length s))) → m ≡ refusal (walk_of word s l)
  list_taken m z h = h ∙ sym (by_list ∙ simp (eq-eqb (names_fault l) 0 (sym q ∙ z)))

-- where a run ends
tour_end : (word : Repeats) (k : ℕ) (s cs : List ℕ) (d : ℕ) (seen : List ℕ) (p : ℕ) → refusal (tour_at word k s cs d seen (padding p)) ≡ 0
unfolding tour_at tour_by refusal
tour_end word zero s cs d seen p = refl
tour_end word (suc k) s cs d seen p = refl

tour_refused : (word : Repeats) (k : ℕ) (s cs : List ℕ) (d : ℕ) (seen : List ℕ) (n : ℕ) → refusal (tour_at word k s cs d seen (refused n)) ≡ n
unfolding tour_at tour_by refusal
tour_refused word zero s cs d seen n = refl
tour_refused word (suc k) s cs d seen n = refl

-- what a turn of the walk's loop keeps
abbrev pub WalkSeen : Repeats → ℕ → List ℕ → List ℕ → ℕ → ℕ → ℕ → List Bool → ℕ → Type 0
WalkSeen word k s cs d from end marks at = Seen (λ seen r. refusal (tour_at word k s cs d seen r)) s from end marks at

module _ (word : Repeats) (k : ℕ) (s cs : List ℕ) (d from end : ℕ) (marks : List Bool) (at : ℕ) (w : WalkSeen word k s cs d from end marks at) where
  -- where the loop comes to padding, the packet has no number due
  pub walk_ends : (p : Bytes) → step_in s at end ≡ Ok (step.End p) → 0 ≡ refusal (tour_at word k s cs d [] (run_of s from end))
  walk_ends p e = sym (w.rest ∙ ap (λ (r : Run). refusal (tour_at word k s cs d w.names r)) (run_end s at end p e)
      ∙ tour_end word k s cs d w.names p.0)

  -- where the loop comes to a refused item, that number is due for the packet
  pub walk_refused : (n : Refusal) → step_in s at end ≡ Err n → number n ≡ refusal (tour_at word k s cs d [] (run_of s from end))
  walk_refused n e = sym (w.rest ∙ ap (λ (r : Run). refusal (tour_at word k s cs d w.names r)) (run-refused s at end n e)
      ∙ tour_refused word k s cs d w.names (number n))

  -- m is the mark of the item's slot h, as it counts by the caller's word
  module _ (i : Item) (e : step_in s at end ≡ Ok (step.Item i)) (h n : ℕ) (m : Bool) (p : h ≡ i.name % slots) (o : m ≡ (forbids word && get_or marks h false))
      (q : n ≡ item_refusal word k s cs d (m && is_before (first_of i.name (run_of s from end)) i.from) i) where
    part : n ≡ refusal_by word k s cs d (again s from end marks h i) i
    part = q ∙ ap (λ (b : Bool). item_refusal word k s cs d b i) (counts word (get_or marks h false) _ m o)

    -- after an item with no number due the loop goes on behind it, with the slot of its name marked
    pub walk_turn : n ≡ 0 → WalkSeen word k s cs d from end (set marks h true) (next_of i)
    walk_turn z = turn _ (refusal_by word k s cs d) (walk_by_item word k s cs d) s from end marks at i w e h n p part z

    -- where the loop comes to an item with a number due, that number is due for the packet
    pub walk_stops : (n ≡ 0 → ⊥) → n ≡ refusal (tour_at word k s cs d [] (run_of s from end))
    walk_stops z = stops _ (refusal_by word k s cs d) (walk_by_item word k s cs d) s from end marks at i w e h n p part z
