-- What is left of the whole walk at each place of the step walk. Assumes nothing.
use Prim.Native.Nat.{ℕ, zero, suc, ◌+◌, ◌-◌, ◌≤◌, ◌<◌, min}
use mathlib.Core.List.{List}
use mathlib.Core.Path.{◌≡◌, refl, sym, ap, ◌∙◌}
use mathlib.Core.Bool.{Bool, true, false, cond}
use native.Mathlib.Omega.{arith}
use native.Mathlib.Numerals.{add-one}
use native.Mathlib.Nat.{le_refl}
use lib.ListN.{length, set}
use lib.Seq.{get_or-set_same, get_or-set_other}
use lib.Dec.{eqb}
use borrow.Author.Tests.{eqb-false}
use Rattle.base_rules.specs.Tests.{among}
use Rattle.item_rules.specs.declared.Bytes.{Bytes}
use Rattle.std.specs.Prelude.{Ok, Err}
use Rattle.base_rules.specs.Refusal.{number}
use Rattle.base_rules.specs.declared.Refusal.{Refusal}
use Rattle.item_rules.specs.declared.Item.{Item}
use Rattle.item_rules.specs.declared.Step.TheVariants as step
use Rattle.item_rules.specs.Item.{step_in}
use Rattle.item_rules.specs.Run.{Run, next_of, run_of}
use Rattle.item_rules.proofs.Steps.{item_fits, refused_is}
use Rattle.item_rules.proofs.Runs.{item_begins, run-item, run_end, run-refused}
use Rattle.walk_rules.specs.Names.{deepest}
use Rattle.walk_rules.specs.Walk.{Tour, visit, ends, stops, unless, and_then, refusal}
use Rattle.walk_rules.specs.Step.{end_of}
use Rattle.walk_rules.proofs.PlainWalks.{plain_at, contents_of, plain-item, plain_end, plain-refused}

-- and_then goes by either grouping
unless-then : (n : ℕ) (u v : Tour) → and_then (unless n u) v ≡ unless n (and_then u v)
unfolding and_then
unless-then n u v = go (eqb n 0) refl
  where
    go : (b : Bool) → eqb n 0 ≡ b → and_then (cond b u (stops n)) v ≡ cond b (and_then u v) (stops n)
    go true q = refl
    go false q = simp q

then-assoc : (t u v : Tour) → and_then (and_then t u) v ≡ and_then t (and_then u v)
unfolding and_then
then-assoc (visit d i t) u v = ap (visit d i) (then-assoc t u v)
then-assoc (ends p) u v = refl
then-assoc (stops n) u v = unless-then n u v

-- what is left of a walk at `at`, at depth d, where the packets of the depths end at es
module _ (s cs : List ℕ) where
  -- the packet of depth d from `at` on, and then each that it stands in, from the inner one's end on
  unfoldable pub rest_of : ℕ → ℕ → List ℕ → Tour
  rest_of zero at es = plain_at deepest s cs 0 (run_of s at (end_of s es 0))
  rest_of (suc d) at es = and_then (plain_at (deepest - suc d) s cs (suc d) (run_of s at (end_of s es (suc d)))) (rest_of d (end_of s es (suc d)) es)

  -- a packet's walk, and then the walks of the packets that it stands in
  above : ℕ → List ℕ → Tour → Tour
  above zero es t = t
  above (suc d) es t = and_then t (rest_of d (end_of s es (suc d)) es)

  rest_is : (d at : ℕ) (es : List ℕ) → rest_of d at es ≡ above d es (plain_at (deepest - d) s cs d (run_of s at (end_of s es d)))
  unfolding rest_of above
  rest_is zero at es = refl
  rest_is (suc d) at es = refl

  above_visit : (d : ℕ) (es : List ℕ) (i : Item) (a b : Tour) → above d es (visit d i (and_then a b)) ≡ visit d i (and_then a (above d es b))
  unfolding above and_then
  above_visit zero es i a b = refl
  above_visit (suc d) es i a b = ap (visit (suc d) i) (then-assoc a b (rest_of d (end_of s es (suc d)) es))

  -- what is stored for a deeper packet changes nothing above it
  other : (d j : ℕ) → d < j → d ≡ j → ⊥
  other d j h q = omega arith

  end_set : (es : List ℕ) (d j x : ℕ) → d < j → end_of s (set es j x) d ≡ end_of s es d
  unfolding end_of
  end_set es d j x h = ap (λ (n : ℕ). min n (length s)) (get_or-set_other es j d x 0 (other d j h))

  lower : (d j : ℕ) → suc d < j → d < j
  lower d j h = omega arith

  rest_set : (d at : ℕ) (es : List ℕ) (j x : ℕ) → d < j → rest_of d at (set es j x) ≡ rest_of d at es
  unfolding rest_of
  rest_set zero at es j x h = ap (λ (e : ℕ). plain_at deepest s cs 0 (run_of s at e)) (end_set es 0 j x h)
  rest_set (suc d) at es j x h =
      ap (λ (e : ℕ). and_then (plain_at (deepest - suc d) s cs (suc d) (run_of s at e)) (rest_of d e (set es j x))) (end_set es (suc d) j x h)
      ∙ ap (and_then (plain_at (deepest - suc d) s cs (suc d) (run_of s at (end_of s es (suc d))))) (rest_set d (end_of s es (suc d)) es j x (lower d j h))

  -- an item, its contents, and what is left behind it
  module _ (d at : ℕ) (es : List ℕ) (i : Item) (e : step_in s at (end_of s es d) ≡ Ok (step.Item i)) where
    rest_visit : rest_of d at es ≡ visit d i (and_then (contents_of s cs (deepest - d) d i) (rest_of d (next_of i) es))
    rest_visit =
        rest_is d at es
        ∙ ap (λ (r : Run). above d es (plain_at (deepest - d) s cs d r)) (run-item s at (end_of s es d) i e)
        ∙ ap (above d es) (plain-item s cs (deepest - d) d i (run_of s (next_of i) (end_of s es d)))
        ∙ above_visit d es i (contents_of s cs (deepest - d) d i) (plain_at (deepest - d) s cs d (run_of s (next_of i) (end_of s es d)))
        ∙ ap (λ (t : Tour). visit d i (and_then (contents_of s cs (deepest - d) d i) t)) (sym (rest_is d (next_of i) es))

    within : next_of i ≤ length s
    unfolding end_of
    within = let h = item_fits s at (end_of s es d) i e in let b = item_begins s at (end_of s es d) i e in omega arith

    end_here : length es ≡ deepest + 1 → d < deepest → end_of s (set es (suc d) (next_of i)) (suc d) ≡ next_of i
    unfolding end_of
    end_here l h = ap (λ (n : ℕ). min n (length s)) (get_or-set_same es (suc d) (next_of i) 0 (rw l (omega arith))) ∙ (let w = within in omega arith)

    -- at a container above the deepest level: the item, and then the walk from its value on, one deeper
    pub rest_into : length es ≡ deepest + 1 → d < deepest → among i.name cs ≡ true
        → rest_of d at es ≡ visit d i (rest_of (d + 1) i.from (set es (d + 1) (next_of i)))
    unfolding rest_of contents_of
    rest_into l h a =
        let k : deepest - d ≡ suc (deepest - suc d) = omega arith in
        let es' = set es (suc d) (next_of i) in
        rest_visit
        ∙ ap (λ (k : ℕ). visit d i (and_then (contents_of s cs k d i) (rest_of d (next_of i) es))) k
        ∙ ap (λ (b : Bool). visit d i (and_then (cond b (plain_at (deepest - suc d) s cs (d + 1) (run_of s i.from (next_of i))) (ends 0))
        (rest_of d (next_of i) es))) a
        ∙ ap (λ (n : ℕ). visit d i (and_then (plain_at (deepest - suc d) s cs n (run_of s i.from (next_of i))) (rest_of d (next_of i) es))) (add-one d)
        ∙ ap (λ (t : Tour). visit d i (and_then (plain_at (deepest - suc d) s cs (suc d) (run_of s i.from (next_of i))) t))
        (sym (rest_set d (next_of i) es (suc d) (next_of i) (le_refl (suc d))))
        ∙ ap (λ (x : ℕ). visit d i (and_then (plain_at (deepest - suc d) s cs (suc d) (run_of s i.from x)) (rest_of d x es'))) (sym (end_here l h))
        ∙ ap (λ (n : ℕ). visit d i (rest_of n i.from (set es n (next_of i)))) (sym (add-one d))

    -- at an item that is no container: the item, and then the walk behind it
    pub rest_behind : among i.name cs ≡ false → rest_of d at es ≡ visit d i (rest_of d (next_of i) es)
    unfolding contents_of and_then
    rest_behind a = rest_visit ∙ ap (visit d i) (none (deepest - d))
      where
        none : (k : ℕ) → and_then (contents_of s cs k d i) (rest_of d (next_of i) es) ≡ rest_of d (next_of i) es
        none zero = refl
        none (suc k) = simp a

    -- at any item on the deepest level: the item, and then the walk behind it
    pub rest_deepest : deepest ≤ d → rest_of d at es ≡ visit d i (rest_of d (next_of i) es)
    unfolding contents_of and_then
    rest_deepest h = rest_visit ∙ ap (λ (k : ℕ). visit d i (and_then (contents_of s cs k d i) (rest_of d (next_of i) es)))
        (let z : deepest - d ≡ 0 = omega arith in z)

  -- where the packet at d ends: the outer one's end is the walk's, behind an inner one the walk above goes on
  module _ (at : ℕ) (es : List ℕ) where
    -- at the outer packet's padding: only the end, with that padding
    pub rest_end : (p : Bytes) → step_in s at (end_of s es 0) ≡ Ok (step.End p) → rest_of 0 at es ≡ ends p.0
    unfolding rest_of
    rest_end p e = ap (plain_at deepest s cs 0) (run_end s at (end_of s es 0) p e) ∙ plain_end s cs deepest 0 p.0

    -- at an inner packet's padding: what is left one level up, from the inner packet's end on
    pub rest_up : (d : ℕ) (p : Bytes) → step_in s at (end_of s es (suc d)) ≡ Ok (step.End p) → rest_of (suc d) at es ≡ rest_of d (end_of s es (suc d)) es
    unfolding rest_of and_then
    rest_up d p e =
        ap (λ (t : Tour). and_then t (rest_of d (end_of s es (suc d)) es))
        (ap (plain_at (deepest - suc d) s cs (suc d)) (run_end s at (end_of s es (suc d)) p e) ∙ plain_end s cs (deepest - suc d) (suc d) p.0)

    -- an item that is refused refuses what is left
    above_stops : (d : ℕ) → refusal (above d es (stops 30)) ≡ 30
    unfolding above and_then refusal
    above_stops zero = refl
    above_stops (suc d) = refl

    -- where an item is refused, so is what is left of the walk
    pub rest_refused : (d : ℕ) (n : Refusal) → step_in s at (end_of s es d) ≡ Err n → refusal (rest_of d at es) ≡ 0 → ⊥
    unfolding number
    rest_refused d n e q =
        eqb-false 30 0 refl
        (sym
        (ap refusal
        (rest_is d at es
        ∙ ap (above d es)
        (ap (plain_at (deepest - d) s cs d) (run-refused s at (end_of s es d) n e) ∙ plain-refused s cs (deepest - d) d (number n)
        ∙ ap (λ (x : Refusal). stops (number x)) (refused_is s at (end_of s es d) n e)))
        ∙ above_stops d)
        ∙ q)
