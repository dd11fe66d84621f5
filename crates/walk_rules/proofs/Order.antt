-- The step walk hands out what is left of the whole walk: its items in order, then its end again and again.
use Prim.Native.Nat.{ℕ, zero, suc, ◌+◌, ◌-◌, ◌≤◌, min}
use mathlib.Core.List.{List, [], ◌∷◌}
use mathlib.Core.Path.{◌≡◌, refl, sym, ap, ◌∙◌}
use mathlib.Core.Bool.{Bool, true, false}
use native.Mathlib.Omega.{arith}
use native.Mathlib.Nat.{le_refl, le_of_suc-le-suc, not-suc-le-zero}
use lib.ListN.{length, set, take, replicate, length-set}
use lib.Dec.{eqb, ltb}
use borrow.Author.Tests.{eqb-true, eqb-false, ltb-true, ltb-false}
use Rattle.base_rules.specs.Tests.{among}
use Rattle.base_rules.proofs.Logic.{either}
use Rattle.item_rules.specs.declared.Bytes.{Bytes}
use Rattle.std.specs.Prelude.{Result, Ok, Err}
use Rattle.base_rules.specs.declared.Refusal.{Refusal}
use Rattle.item_rules.specs.declared.Item.{Item}
use Rattle.item_rules.specs.declared.Repeats.{Repeats}
use Rattle.item_rules.specs.declared.Step.{Step}
use Rattle.item_rules.specs.declared.Step.TheVariants as step
use Rattle.item_rules.specs.Item.{step_in}
use Rattle.item_rules.specs.Run.{next_of, run_of}
use Rattle.walk_rules.specs.declared.Handed.{Handed}
use Rattle.walk_rules.specs.declared.Handed.TheVariants as handed
use Rattle.walk_rules.specs.declared.Walker.{Walker}
use Rattle.walk_rules.specs.declared.Walked.{Walked}
use Rattle.walk_rules.specs.Names.{deepest, names_of, names_fault}
use Rattle.walk_rules.specs.Walk.{Tour, visit, tour_at, refusal, walk_of}
use Rattle.walk_rules.specs.Step.{opens, goes_on, end_of, step_from}
use Rattle.walk_rules.specs.Claims.{hands_out, told, due}
use Rattle.walk_rules.proofs.StepCases.{step-item, step_end, step_up, into, behind, behind_deepest, stays, steps_on}
use Rattle.walk_rules.proofs.Refusals.{list_refused}
use Rattle.walk_rules.proofs.PlainWalks.{plain_at, plain, not_tested}
use Rattle.walk_rules.proofs.LeftOver.{rest_of, rest_into, rest_behind, rest_deepest, rest_end, rest_up, rest_refused}

-- so many of more that are the same
take_same : {A : Type 0} (n m : ℕ) (a : A) → n ≤ m → take n (replicate m a) ≡ replicate n a
take_same zero m a h = refl
take_same (suc n) zero a h = absurd (not-suc-le-zero h)
take_same (suc n) (suc m) a h = ap (λ (l : List _). a ∷ l) (take_same n m a (le_of_suc-le-suc h))

module _ (s cs : List ℕ) where
  -- what is left where a walker stands
  abbrev left_of : Walker → Tour
  left_of w = rest_of s cs w.depth w.at w.ends

  -- a place that a walk which is not refused comes to
  record Stands (w : Walker) : Type 0 where
    sized : length w.ends ≡ deepest + 1
    deep : w.depth ≤ deepest
    open_still : w.refusal ≡ 0
    sound : refusal (left_of w) ≡ 0

  -- a step hands out the first of what is left, and comes to the rest of it
  record Shows (d at : ℕ) (es : List ℕ) : Type 0 where
    out : Result Handed ℕ
    next : Walker
    is : step_from s cs at d es ≡ record { handed = out; next = next }
    stands : Stands next
    first : (n m : ℕ) → suc n ≤ m → take (suc n) (told m (rest_of s cs d at es)) ≡ out ∷ take n (told m (left_of next))

  module _ (d at : ℕ) (es : List ℕ) (l : length es ≡ deepest + 1) (h : d ≤ deepest) (z : refusal (rest_of s cs d at es) ≡ 0) where
    module _ (i : Item) (e : step_in s at (end_of s es d) ≡ Ok (step.Item i)) where
      put : (w : Walker) → w ≡ goes_on cs d es i → rest_of s cs d at es ≡ visit d i (left_of w) → length w.ends ≡ deepest + 1
          → w.depth ≤ deepest → w.refusal ≡ 0
          → Shows d at es
      unfolding refusal told
      put w q r sized deep open_still =
          record {
            out = Ok (handed.Item (record { depth = d; item = i }));
            next = w;
            is = step-item s cs at es d (end_of s es d) i w refl e q;
            stands = record { sized = sized; deep = deep; open_still = open_still; sound = sym (ap refusal r) ∙ z };
            first = λ n m h. ap (λ (t : Tour). take (suc n) (told m t)) r;
          }

      shows_item : Shows d at es
      shows_item = go (ltb d deepest) (among i.name cs) refl refl
        where
          go : (b b' : Bool) → ltb d deepest ≡ b → among i.name cs ≡ b' → Shows d at es
          go true true q a =
              let k = ltb-true d deepest q in
              put (record { refusal = 0; at = i.from; depth = d + 1; ends = set es (d + 1) (next_of i) }) (into cs d es i k a)
              (rest_into s cs d at es i e l k a) (length-set es (d + 1) (next_of i) ∙ l) (omega arith) refl
          go true false q a =
              put (record { refusal = 0; at = next_of i; depth = d; ends = es }) (behind cs d es i (ltb-true d deepest q) a)
              (rest_behind s cs d at es i e a) l h refl
          go false b' q a =
              put (record { refusal = 0; at = next_of i; depth = d; ends = es }) (behind_deepest cs d es i (ltb-false d deepest q))
              (rest_deepest s cs d at es i e (ltb-false d deepest q)) l h refl

    shows_refused : (n : Refusal) → step_in s at (end_of s es d) ≡ Err n → Shows d at es
    shows_refused n e = absurd (rest_refused s cs at es d n e z)

  shows_end : (at : ℕ) (es : List ℕ) (p : Bytes) → length es ≡ deepest + 1 → step_in s at (end_of s es 0) ≡ Ok (step.End p) → Shows 0 at es
  unfolding refusal told
  shows_end at es p l e =
      let r = rest_end s cs at es p e in
      record {
        out = Ok (handed.End p);
        next = record { refusal = 0; at = at; depth = 0; ends = es };
        is = step_end s cs at es 0 (end_of s es 0) p refl e refl;
        stands = record { sized = l; deep = omega arith; open_still = refl; sound = ap refusal r };
        first = λ n m h.
            ap (λ (t : Tour). take (suc n) (told m t)) r
            ∙ take_same (suc n) m (Ok (handed.End p)) h
            ∙ sym (ap (λ (t : Tour). Ok (handed.End p) ∷ take n (told m t)) r
            ∙ ap (λ (x : List (Result Handed ℕ)). Ok (handed.End p) ∷ x) (take_same n m (Ok (handed.End p)) (less n m h)));
      }
    where
      less : (n m : ℕ) → suc n ≤ m → n ≤ m
      less n m h = omega arith

  -- behind an inner packet a step shows what the packet above it shows
  shows_up : (d at b : ℕ) (es : List ℕ) → step_from s cs at (suc d) es ≡ step_from s cs b d es → rest_of s cs (suc d) at es ≡ rest_of s cs d b es
      → Shows d b es
      → Shows (suc d) at es
  shows_up d at b es p r x =
      record {
        out = x.out;
        next = x.next;
        is = p ∙ x.is;
        stands = x.stands;
        first = λ n m h. ap (λ (t : Tour). take (suc n) (told m t)) r ∙ x.first n m h;
      }

  not_none : (d : ℕ) → suc d ≡ 0 → ⊥
  not_none d q = omega arith

  less_deep : (d : ℕ) → suc d ≤ deepest → d ≤ deepest
  less_deep d h = omega arith

  one_up : (d : ℕ) → suc d - 1 ≡ d
  one_up d = omega arith

  shows_top : (at : ℕ) (es : List ℕ) → length es ≡ deepest + 1 → refusal (rest_of s cs 0 at es) ≡ 0 → (t : Result Step Refusal) → step_in s at (end_of s es 0) ≡ t
      → Shows 0 at es
  shows_top at es l z (Ok (step.Item i)) e = shows_item 0 at es l (omega arith) z i e
  shows_top at es l z (Ok (step.End p)) e = shows_end at es p l e
  shows_top at es l z (Err n) e = shows_refused 0 at es l (omega arith) z n e

  shows_inner : (d at : ℕ) (es : List ℕ) → length es ≡ deepest + 1 → suc d ≤ deepest → refusal (rest_of s cs (suc d) at es) ≡ 0
      → (refusal (rest_of s cs d (end_of s es (suc d)) es) ≡ 0 → Shows d (end_of s es (suc d)) es)
      → (t : Result Step Refusal) → step_in s at (end_of s es (suc d)) ≡ t → Shows (suc d) at es
  shows_inner d at es l h z up (Ok (step.Item i)) e = shows_item (suc d) at es l h z i e
  shows_inner d at es l h z up (Ok (step.End p)) e =
      let b = end_of s es (suc d) in
      let r = rest_up s cs at es d p e in
      shows_up d at b es (step_up s cs at es (suc d) b p refl e (not_none d) ∙ ap (λ (n : ℕ). step_from s cs b n es) (one_up d)) r
      (up (sym (ap refusal r) ∙ z))
  shows_inner d at es l h z up (Err n) e = shows_refused (suc d) at es l h z n e

  shows : (d at : ℕ) (es : List ℕ) → length es ≡ deepest + 1 → d ≤ deepest → refusal (rest_of s cs d at es) ≡ 0 → Shows d at es
  shows zero at es l h z = shows_top at es l z (step_in s at (end_of s es 0)) refl
  shows (suc d) at es l h z =
      shows_inner d at es l h z (λ y. shows d (end_of s es (suc d)) es l (less_deep d h) y) (step_in s at (end_of s es (suc d))) refl

-- so many steps hand out the first so many of what is left
hands_left : (s l : List ℕ) → names_fault l ≡ 0 → (n m : ℕ) (w : Walker) → n ≤ m → Stands s (names_of l) w
    → hands_out n s l w ≡ take n (told m (left_of s (names_of l) w))
unfolding hands_out
hands_left s l f zero m w h v = refl
hands_left s l f (suc n) m w h v =
    let x = shows s (names_of l) w.depth w.at w.ends v.sized v.deep v.sound in
    let k : min w.depth deepest ≡ w.depth = omega (arith, v.deep) in
    let is = steps_on s l w v.open_still f ∙ ap (λ (d : ℕ). step_from s (names_of l) w.at d w.ends) k ∙ x.is in
    ap (λ (y : Walked). y.handed ∷ hands_out n s l y.next) is
    ∙ ap (λ (y : List (Result Handed ℕ)). x.out ∷ y) (hands_left s l f n m x.next (omega arith) x.stands)
    ∙ sym (x.first n m h)

-- a walk that was refused hands out its refusal
hands_refusal : (s l : List ℕ) (n : ℕ) (w : Walker) → (w.refusal ≡ 0 → ⊥) → hands_out n s l w ≡ replicate n (Err w.refusal)
unfolding hands_out
hands_refusal s l zero w h = refl
hands_refusal s l (suc n) w h =
    ap (λ (y : Walked). y.handed ∷ hands_out n s l y.next) (stays s l w h)
    ∙ ap (λ (y : List (Result Handed ℕ)). Err w.refusal ∷ y) (hands_refusal s l n w h)

-- where a whole walk is not refused, its list of names is not
list_clear : (word : Repeats) (s l : List ℕ) → refusal (walk_of word s l) ≡ 0 → names_fault l ≡ 0
list_clear word s l z =
    either (eqb (names_fault l) 0) (eqb-true (names_fault l) 0)
    (λ q. let h = eqb-false (names_fault l) 0 q in absurd (h (list_refused word s l (names_fault l) refl h ∙ z)))

-- the whole walk, where it is not refused, is what is left where it opens
opens_whole : (word : Repeats) (s l : List ℕ) → refusal (walk_of word s l) ≡ 0 → walk_of word s l ≡ left_of s (names_of l) (opens word s l)
unfolding walk_of opens rest_of end_of
opens_whole word s l z =
    let t = tour_at word (deepest + 1) s (names_of l) 0 [] (run_of s 0 (length s)) in
    let x = not_tested (names_fault l) t z in
    let m : min (length s) (length s) ≡ length s = omega arith in
    x.0 ∙ plain word s (names_of l) deepest 0 [] (run_of s 0 (length s)) refl x.1 ∙ sym (ap (λ (n : ℕ). plain_at deepest s (names_of l) 0 (run_of s 0 n)) m)

opens_stands : (word : Repeats) (s l : List ℕ) → refusal (walk_of word s l) ≡ 0 → Stands s (names_of l) (opens word s l)
unfolding opens
opens_stands word s l z = record { sized = refl; deep = omega arith; open_still = z; sound = sym (ap refusal (opens_whole word s l z)) ∙ z }

-- from its opening on, n steps hand out what is due of the whole walk: its items and its end, or its refusal
pub ordered : (word : Repeats) (s l : List ℕ) (n : ℕ) → hands_out n s l (opens word s l) ≡ due n (walk_of word s l)
unfolding due opens
ordered word s l n =
    either (eqb (refusal (walk_of word s l)) 0)
    (λ q.
    let z = eqb-true (refusal (walk_of word s l)) 0 q in
    hands_left s l (list_clear word s l z) n n (opens word s l) (le_refl n) (opens_stands word s l z)
    ∙ ap (λ (t : Tour). take n (told n t)) (sym (opens_whole word s l z))
    ∙ sym (simp q))
    (λ q. hands_refusal s l n (opens word s l) (eqb-false (refusal (walk_of word s l)) 0 q) ∙ sym (simp q))
