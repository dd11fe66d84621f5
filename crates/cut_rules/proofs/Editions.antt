-- The rules of sizes of the two editions beside one another: what they assure, where they cut alike, and a cut of which five lost fragments
-- are too many. Assumes nothing.
use mathlib.Core.Path.{◌≡◌, refl, sym, ap, ap₂, ◌∙◌}
use mathlib.Core.Bool.{Bool, true, false, cond, not, ◌&&◌}
use mathlib.Core.List.{◌∷◌, []}
use Prim.Native.Nat.{ℕ, ◌+◌, ◌-◌, ◌*◌, ◌/◌, ◌≤◌, ◌<◌}
use native.Mathlib.Nat.{le-div_iff_mul-le, div-mul-le_self}
use native.Mathlib.Omega.{arith}
use borrow.Author.Tests.{eqb-true, ne_eqb, ltb-false, leb-true, leb-false, lt-ltb, le-ltb, le-leb}
use lib.Dec.{leb, ltb, eqb, lit≤}
use Rattle.base_rules.specs.Bounds.{least_l, most_l, most_f, most_m, parity}
use Rattle.base_rules.specs.Round.{ceil}
use Rattle.base_rules.specs.Tests.{first}
use Rattle.base_rules.proofs.Logic.{either, and_left}
use Rattle.cut_rules.specs.Claims.{AssuredIs, FiveNotAlways, with_rule, OneUp, SameRefusals, SameAtNone}
use Rattle.cut_rules.specs.Edge.{newer}
use Rattle.cut_rules.specs.Missing.{worst, firsts, missing}
use Rattle.cut_rules.specs.Plan.{fit, with_fec, figures_of, plan_fault, plan_of}
use Rattle.cut_rules.specs.Sizes as size
use Rattle.cut_rules.specs.declared.Rule.{Rule}
use Rattle.cut_rules.specs.declared.Rule.TheVariants.{Older, Newer}
use Rattle.cut_rules.specs.declared.Settings.{Settings}
use Rattle.cut_rules.proofs.Bearing.{share_least, few_thick}
use Rattle.cut_rules.proofs.LossCounts.{firsts-lost, firsts-take}
use Rattle.cut_rules.proofs.PlanCases.{fitted, by_m, S-none, S-both, plan_taken, fault_40, plan_40}
use Rattle.cut_rules.proofs.Sufficing.{suffice_no}

-- ---- what a cut assures

-- of rule, m and c as plain numbers: m, unless m is 5 and there is more than one chunk by the newer rule
figure_m : (r : Rule) (m c : ℕ) → (r ≡ Newer → m ≡ 5 → c ≤ 1) → size.assured_by r m c ≡ m
figure_m Older m c sure = refl
figure_m Newer m c sure = either_m (eqb m 5) refl
  where
    either_m : (b : Bool) → eqb m 5 ≡ b → cond (b && ltb 1 c) 4 m ≡ m
    either_m false e = refl
    either_m true e = ap (λ (b : Bool). cond b 4 m) (le-ltb 1 c (sure refl (eqb-true m 5 e)))

-- the losses that a cut assures are the m that its sender is set for, but 4 where m is 5 and c above 1 by the newer rule
pub assured_is : AssuredIs
unfolding size.assured
assured_is g l =
    record {
      m_sure = figure_m g.rule g.m (size.c l);
      four_sure = λ is-newer five more. rw (is-newer, five, lt-ltb 1 (size.c l) more);
    }

-- no cut assures more than its sender is set for
pub assured_most : (g : Settings) (l : ℕ) → size.assured g l ≤ g.m
unfolding size.assured
assured_most g l = at_most g.rule g.m (size.c l)
  where
    at_most : (r : Rule) (m c : ℕ) → size.assured_by r m c ≤ m
    at_most Older m c = omega arith
    at_most Newer m c = either (eqb m 5 && ltb 1 c)
        (λ e. rw e (omega (arith, eqb-true m 5 (and_left (eqb m 5) (ltb 1 c) e))))
        (λ e. rw e (omega arith))

-- ---- where the two cut alike

-- settings that differ in rule and m alone, and have the same room in a fragment, cut alike
module _ (g : Settings) (r t : Rule) (x y l : ℕ) (same : size.S (with_rule r x g) l ≡ size.S (with_rule t y g) l) where
  same_f : size.f (with_rule r x g) l ≡ size.f (with_rule t y g) l
  unfolding size.f size.L
  same_f = ap (ceil (size.L (with_rule r x g) l)) same

  same_s : size.s (with_rule r x g) l ≡ size.s (with_rule t y g) l
  unfolding size.s size.L
  same_s = ap (ceil (size.L (with_rule r x g) l)) same_f

  same_fault : fit (with_rule r x g) ≡ fit (with_rule t y g) → plan_fault (with_rule r x g) l ≡ plan_fault (with_rule t y g) l
  unfolding plan_fault
  same_fault fits =
      ap₂
      (λ (b : Bool) (f : ℕ). first ((not b, 40) ∷ (ltb l least_l, 20) ∷ (ltb most_l l, 22) ∷ (ltb most_f f, 41) ∷ []))
      fits same_f

-- what the older rule cuts at m, 1 to 4, the newer one cuts at m + 1
pub one_up : OneUp
unfolding size.divisor size.h fit
one_up g m l some few =
    let up : m + 1 ≡ 0 → ⊥ = λ (e : m + 1 ≡ 0). omega arith in
    let here : m ≡ 0 → ⊥ = λ (e : m ≡ 0). omega arith in
    let room = S-both (with_rule Newer (m + 1) g) l up ∙ sym (S-both (with_rule Older m g) l here) in
    record {
      refusal = same_fault g Newer Older (m + 1) m l room
          (rw (le-leb (m + 1) most_m (omega arith), le-leb m most_m (omega arith), ne_eqb (m + 1) 0 up, ne_eqb m 0 here));
      room = room;
      fragments = same_f g Newer Older (m + 1) m l room;
      bytes = same_s g Newer Older (m + 1) m l room;
    }

-- 48 c over m is no less than over m + 1
share_more : (x m : ℕ) → 0 < m → x / (m + 1) ≤ x / m
share_more x m some =
    (le-div_iff_mul-le {k = m} some).1
    (omega (arith, div-mul-le_self x (m + 1)))

-- settings in bounds: both rules make more than 256 fragments of a packet, or neither does
module _ (g : Settings) (l : ℕ) (from : least_l ≤ l) where
  abbrev a : Settings
  a = with_rule Newer g.m g

  abbrev b : Settings
  b = with_rule Older g.m g

  same_many : fit a ≡ true → ltb most_f (size.f a l) ≡ ltb most_f (size.f b l)
  unfolding fit size.h size.divisor
  same_many fits = by_m (ltb most_f (size.f a l) ≡ ltb most_f (size.f b l)) g.m
      (λ none. alike (S-none a l none ∙ sym (S-none b l none)))
      (λ more. either (leb (g.mtu - size.h b) (parity * size.c l / (g.m + 1)))
      (λ narrow.
      let less = leb-true (g.mtu - size.h b) (parity * size.c l / (g.m + 1)) narrow in
      alike (omega (arith, S-both a l more, S-both b l more, less, share_more (parity * size.c l) g.m (omega arith))))
      (λ wide.
      let most = leb-false (g.mtu - size.h b) (parity * size.c l / (g.m + 1)) wide in
      let fec : g.fec ≡ true = either g.fec (λ e. e) (λ e. absurd (more ((fitted a fits).m-fec e))) in
      let share-a = share_least a l (fitted a fits) more in
      let share-b = share_least b l (fitted b fits) more in
      le-ltb most_f (size.f a l) (few_thick a l (fitted a fits) fec from (omega (arith, S-both a l more, share-a, share-b, most)))
      ∙ sym (le-ltb most_f (size.f b l) (few_thick b l (fitted b fits) fec from (omega (arith, S-both b l more, share-b, most))))))
    where
      alike : size.S a l ≡ size.S b l → ltb most_f (size.f a l) ≡ ltb most_f (size.f b l)
      alike e = ap (ltb most_f) (same_f g Newer Older g.m g.m l e)

-- neither rule refuses a plan that the other takes, nor with another number
pub same_refusals : SameRefusals
unfolding plan_fault fit size.h first
same_refusals g l =
    let a = with_rule Newer g.m g in
    let b = with_rule Older g.m g in
    either (fit a)
    (λ fits. either (ltb l least_l)
    (λ short. rw short refl)
    (λ long. ap (λ (many : Bool). first ((not (fit a), 40) ∷ (ltb l least_l, 20) ∷ (ltb most_l l, 22) ∷ (many, 41) ∷ []))
    (same_many g l (ltb-false l least_l long) fits)))
    (λ unfit. sym (fault_40 a l unfit) ∙ fault_40 b l unfit)

-- with m 0 the answer to a plan is the same by both rules
none : (g : Settings) (l : ℕ) → g.m ≡ 0 → plan_of (with_rule Newer g.m g) l ≡ plan_of (with_rule Older g.m g) l
unfolding plan_of fit size.h figures_of size.assured size.L with_fec
none g l m-none =
    let room = S-none (with_rule Newer g.m g) l m-none ∙ sym (S-none (with_rule Older g.m g) l m-none) in
    rw (
      same_fault g Newer Older g.m g.m l room refl,
      room,
      same_f g Newer Older g.m g.m l room,
      same_s g Newer Older g.m g.m l room,
      figure_m Newer g.m (size.c l) (λ is-newer five. omega (arith, m-none)),
    )

-- at m 0, and without FEC, the rule changes nothing of the answer
pub same_at_none : SameAtNone
unfolding fit size.h
same_at_none g l no-losses =
    let a = with_rule Newer g.m g in
    let b = with_rule Older g.m g in
    either (fit a)
    (λ fits. none g l (either g.fec no-losses (fitted a fits).m-fec))
    (λ unfit. sym (plan_40 a l unfit) ∙ plan_40 b l unfit)

-- ---- five that are too many

-- at l 414 and m 5 the newer rule makes 27 fragments of 19 bytes of two chunks of 255
cut_414 : (size.f (newer 5) 414 ≡ 27) × (size.s (newer 5) 414 ≡ 19) × (size.n 414 ≡ 255) × (size.c 414 ≡ 2)
unfolding ceil size.c size.k size.n size.address_bytes size.h size.divisor size.S size.L size.f size.s
cut_414 = (refl, refl, refl, refl)

-- the first five of 27 take 50 bytes of a chunk of 255
first_five : missing (firsts 5) 27 255 0 ≡ 50
unfolding worst
first_five = firsts-take 255 27 5 (lit≤ tt) (lit≤ tt)

-- at l 414 and m 5 by the newer rule five lost fragments can be too many
pub five_not_always : FiveNotAlways
unfolding fit size.h size.address_bytes
five_not_always =
    let f27 = cut_414.0 in
    let n255 = cut_414.2 in
    record {
      taken = sym (plan_taken (newer 5) 414 refl (lit≤ tt) (lit≤ tt) (omega (arith, f27)));
      fragments = f27;
      bytes = cut_414.1;
      five = firsts-lost (size.n 414) (size.f (newer 5) 414) 5 (omega (arith, f27)) (omega (arith, f27));
      takes = rw (f27, n255) first_five;
      short = rw (f27, n255, cut_414.3) (suffice_no (firsts 5) 27 255 2 0 (lit≤ tt) (omega (arith, first_five)));
    }
