-- What is kept of the figures that came: the last, the greatest and the least. Assumes nothing.
use mathlib.Core.Path.{◌≡◌, refl, sym, ap, ap₂, subst, ◌∙◌}
use mathlib.Core.Bool.{Bool, true, false, not, ◌||◌}
use mathlib.Core.List.{List, [], ◌∷◌, ◌++◌, append_assoc, append-nil}
use Prim.Native.Nat.{ℕ, ◌+◌, ◌≤◌, ◌<◌}
use native.Mathlib.Nat.{le_refl, le_of_lt, le_antisymm}
use native.Mathlib.Omega.{arith}
use lib.Dec.{eqb, ltb}
use lib.ListN.{length, get_or, length-append}
use lib.Seq.{get_or-append-add}
use borrow.Author.Tests.{eq-eqb, ne_eqb, eqb-true, ltb-true, ltb-false}
use lib.Ieee as Ieee
use lib.Ieee.{Float}
use Rattle.std.specs.Prelude.{Result, Ok, Err, Option, Some, None}
use Rattle.base_rules.specs.declared.Refusal.{Refusal}
use Rattle.base_rules.specs.Tests.{among}
use Rattle.base_rules.proofs.Logic.{either, clash}
use Rattle.bandwidth_rules.specs.Figure.{figures, figure_of, in256ths}
use Rattle.bandwidth_rules.specs.Seen.{no_widths, wider, narrower, with_width, seen_of, seen_all}
use Rattle.bandwidth_rules.specs.Claims.{sent_in, AllSent, SoFarIs, SoFarOf, SoFar}
use Rattle.bandwidth_rules.specs.declared.Widths.{Widths}
use Rattle.bandwidth_rules.proofs.Figures.{figure_tested, order_kept}

-- ---- lists with one more at their end

-- one of such a list is one of the list, or the one more
among_more : (m n : ℕ) (l : List ℕ) → among m (l ++ (n ∷ [])) ≡ (among m l || eqb n m)
unfolding among
among_more m n [] = or_none (eqb n m)
  where
    or_none : (b : Bool) → (b || false) ≡ b
    or_none true = refl
    or_none false = refl
among_more m n (k ∷ l) = either (eqb k m) (λ t. simp t) (λ f. simp f (among_more m n l))

-- its last is the one more
last_more : (n m : ℕ) (l k : List ℕ) → l ++ (n ∷ []) ≡ k ++ (m ∷ []) → n ≡ m
last_more n m l k e =
    let long : length l + 1 ≡ length k + 1 = sym (length-append l (n ∷ [])) ∙ ap length e ∙ length-append k (m ∷ []) in
    let same : length l ≡ length k = omega (arith, long) in
    sym (get_or-append-add l (n ∷ []) 0 0) ∙ ap₂ (λ (x : List ℕ) (i : ℕ). get_or x (i + 0) 0) e same ∙ get_or-append-add k (m ∷ []) 0 0

-- ---- what holds of one kept figure, for a test by which of two numbers the second goes before the first

-- figures came, and of them k is one that R says to be before none other
pub record Best (R : ℕ → ℕ → Type 0) (x : Float) (sent : List ℕ) : Type 0 where
  pub best : ℕ
  pub small : best < figures
  pub is : x ≡ figure_of best
  pub one : among best sent ≡ true
  pub all : (m : ℕ) → among m sent ≡ true → R m best

module _ (R : ℕ → ℕ → Type 0) (self : (n : ℕ) → R n n) (chain : (a b c : ℕ) → R a b → R b c → R a c) where
  -- the first
  first_best : (n : ℕ) → n < figures → Best R (figure_of n) ([] ++ (n ∷ []))
  unfolding among
  first_best n h = record {
    best = n;
    small = h;
    is = refl;
    one = simp (eq-eqb n n refl);
    all = λ m q. either (eqb n m) (λ t. subst (λ (k : ℕ). R k n) (eqb-true n m t) (self n)) (λ f. clash q (simp f));
  }

  -- one more that goes before, which is kept,
  new_best : (x : Float) (sent : List ℕ) (n : ℕ) → n < figures → (w : Best R x sent) → R w.best n → Best R (figure_of n) (sent ++ (n ∷ []))
  new_best x sent n h w r = record {
    best = n;
    small = h;
    is = refl;
    one = among_more n n sent ∙ either (among n sent) (λ t. simp t) (λ f. simp (f, eq-eqb n n refl));
    all = λ m q. either (among m sent) (λ t. chain m w.best n (w.all m t) r)
        (λ f. subst (λ (k : ℕ). R k n) (eqb-true n m (rw f at (sym (among_more m n sent) ∙ q))) (self n));
  }

  -- or does not
  old_best : (x : Float) (sent : List ℕ) (n : ℕ) → (w : Best R x sent) → R n w.best → Best R x (sent ++ (n ∷ []))
  old_best x sent n w r = record {
    best = w.best;
    small = w.small;
    is = w.is;
    one = among_more w.best n sent ∙ simp w.one;
    all = λ m q. either (among m sent) (λ t. w.all m t)
        (λ f. subst (λ (k : ℕ). R k w.best) (eqb-true n m (rw f at (sym (among_more m n sent) ∙ q))) r);
  }

-- m is at most k, or at least
abbrev AtMost : ℕ → ℕ → Type 0
AtMost m k = m ≤ k

abbrev AtLeast : ℕ → ℕ → Type 0
AtLeast m k = k ≤ m

up : (a b c : ℕ) → AtMost a b → AtMost b c → AtMost a c
up a b c p q = omega arith

down : (a b c : ℕ) → AtLeast a b → AtLeast b c → AtLeast a c
down a b c p q = omega arith

-- ---- the figures so far

-- none has come; or some have, and the three are kept of them
pub data So (v : Widths) (sent : List ℕ) : Type 0 where
  none : v ≡ no_widths → sent ≡ [] → So v sent
  some : v.any ≡ true → (before : List ℕ) (n : ℕ) → sent ≡ before ++ (n ∷ []) → v.last ≡ figure_of n → Best AtMost v.widest sent
      → Best AtLeast v.narrowest sent → So v sent

-- one more is kept where it is wider than the widest,
wider_best : (x : Float) (sent : List ℕ) (n : ℕ) → n < figures → Best AtMost x sent → Best AtMost (wider x (figure_of n)) (sent ++ (n ∷ []))
unfolding wider
wider_best x sent n h w =
    let test : Ieee.lt x (figure_of n) ≡ ltb w.best n = ap (λ (y : Float). Ieee.lt y (figure_of n)) w.is ∙ order_kept w.best n w.small h in
    either (ltb w.best n)
    (λ t. simp (test, t) (new_best AtMost le_refl up x sent n h w (le_of_lt (ltb-true _ _ t))))
    (λ f. simp (test, f) (old_best AtMost le_refl up x sent n w (ltb-false _ _ f)))

-- or narrower than the narrowest
narrower_best : (x : Float) (sent : List ℕ) (n : ℕ) → n < figures → Best AtLeast x sent
    → Best AtLeast (narrower x (figure_of n)) (sent ++ (n ∷ []))
unfolding narrower
narrower_best x sent n h w =
    let test : Ieee.lt (figure_of n) x ≡ ltb n w.best = ap (λ (y : Float). Ieee.lt (figure_of n) y) w.is ∙ order_kept n w.best h w.small in
    either (ltb n w.best)
    (λ t. simp (test, t) (new_best AtLeast le_refl down x sent n h w (le_of_lt (ltb-true _ _ t))))
    (λ f. simp (test, f) (old_best AtLeast le_refl down x sent n w (ltb-false _ _ f)))

-- after one more figure
so_more : (v : Widths) (sent : List ℕ) (n : ℕ) → n < figures → So v sent → So (with_width v (figure_of n)) (sent ++ (n ∷ []))
unfolding with_width no_widths
so_more v sent n h (none a e) =
    simp (ap (λ (u : Widths). u.any) a, e) (some refl [] n refl refl (first_best AtMost le_refl up n h)
    (first_best AtLeast le_refl down n h))
so_more v sent n h (some a before l e is w k) =
    simp a (some refl sent n refl refl (wider_best v.widest sent n h w) (narrower_best v.narrowest sent n h k))

-- after any answers
so_all : {E : Type 0} (v : Widths) (sent : List ℕ) (answers : List (Result (Option Float) E)) → AllSent answers → So v sent → So (seen_all v answers) (sent ++ sent_in answers)
unfolding seen_all seen_of sent_in
so_all v sent [] all so = subst (So v) (sym (append-nil sent)) so
so_all v sent (Ok (Some x) ∷ more) all so =
    let f = (figure_tested x all.0.0).is all.0.1 in
    let n : ℕ = in256ths x in
    let here : So (with_width v x) (sent ++ (n ∷ [])) = subst (λ (y : Float). So (with_width v y) (sent ++ (n ∷ []))) (sym f.1) (so_more v sent n f.0 so) in
    subst (So (seen_all (with_width v x) more)) (append_assoc sent (n ∷ []) (sent_in more)) (so_all (with_width v x) (sent ++ (n ∷ [])) more all.1 here)
so_all v sent (Ok None ∷ more) all so = so_all v sent more all.1 so
so_all v sent (Err n ∷ more) all so = so_all v sent more all.1 so

-- a list with one at its end is not empty
empty : (before : List ℕ) (n : ℕ) → [] ≡ before ++ (n ∷ []) → ⊥
empty before n q = let h = ap length q ∙ length-append before (n ∷ []) in omega (arith, h)

-- so each is kept
kept_by_lem : (v : Widths) (sent : List ℕ) → So v sent → SoFarIs v sent
unfolding among no_widths
kept_by_lem v sent (none a e) = record {
  any = ap (λ (u : Widths). u.any) a ∙ sym (ap (λ (l : List ℕ). not (eqb (length l) 0)) e);
  last = λ before n q. absurd (empty before n (sym e ∙ q));
  widest = λ n one all. clash one (ap (among n) e);
  narrowest = λ n one all. clash one (ap (among n) e);
  none = λ z. a;
}
kept_by_lem v sent (some a before l e is w k) = record {
  any = a ∙ sym (ap not (ne_eqb (length sent) 0 (λ z. let h = sym (ap length e ∙ length-append before (l ∷ [])) ∙ z in omega (arith, h))));
  last = λ other n q. is ∙ ap figure_of (last_more l n before other (sym e ∙ q));
  widest = λ n one all. w.is ∙ ap figure_of (le_antisymm (all w.best w.one) (w.all n one));
  narrowest = λ n one all. k.is ∙ ap figure_of (le_antisymm (k.all n one) (all k.best k.one));
  none = λ z. absurd (empty before l (sym z ∙ e));
}

so_far_of : {E : Type 0} → SoFarOf E
unfolding no_widths
so_far_of answers all = kept_by_lem (seen_all no_widths answers) (sent_in answers) (so_all no_widths [] answers all (none refl refl))

pub so_far : SoFar
so_far = (so_far_of, so_far_of)
