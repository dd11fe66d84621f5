-- The claims of specs/Claims.antt, each by citation. Assumes nothing.
use mathlib.Core.Path.{◌≡◌, refl, sym, ap}
use mathlib.Core.Bool.{Bool, true, false}
use mathlib.Core.List.{List, map}
use Prim.Native.Nat.{ℕ, ◌+◌, ◌-◌, ◌*◌, ◌≤◌, ◌<◌}
use native.Mathlib.Nat.{mul-le-mul_right}
use native.Mathlib.Omega.{arith}
use lib.Dec.{lit≤}
use lib.ListN.{length}
use Rattle.base_rules.specs.Bounds.{parity}
use Rattle.base_rules.specs.Round.{ceil}
use Rattle.base_rules.specs.Bytes.{part_of}
use Rattle.base_rules.proofs.Parts.{length_left}
use Rattle.cut_rules.specs.Claims.{Taken, C2, C3, C4, C5, C6, C6m, SetFor, HouseBears, HouseBearsMore, TwoBorne, AnyThree, NoFour, Parted}
use Rattle.cut_rules.specs.Claims.{SureOfM, AssuredIs, FiveNotAlways, OneUp, SameRefusals, SameAtNone}
use Rattle.cut_rules.specs.Edge.{Row, rows, fec}
use Rattle.cut_rules.specs.Missing.{losses, missing, worst}
use Rattle.cut_rules.specs.Plan.{house_of, two_losses_of, fit}
use Rattle.cut_rules.specs.Sizes as size
use Rattle.cut_rules.specs.declared.Settings.{Settings}
use Rattle.cut_rules.proofs.Bearing as bearing
use Rattle.cut_rules.proofs.Blocks.{window}
use Rattle.cut_rules.proofs.Editions as editions
use Rattle.cut_rules.proofs.Interleaving.{woven, joined, part_byte}
use Rattle.cut_rules.proofs.LossCounts.{most, fewest, firsts-lost, firsts-take, worst_more}
use Rattle.cut_rules.proofs.PlanCases.{fitted, within, S-both, L-plain, plan_taken}
use Rattle.cut_rules.proofs.Sufficing.{suffice_from, suffice_no}

-- in every cut that is not refused the sizes fit together, and all fragments fit a place
pub c2 : C2
c2 g l taken = bearing.sized g l (within g l taken)

-- in every cut with FEC that is not refused the receiver's c is the sender's
pub c3 : C3
c3 g l taken = bearing.same_c g l (within g l taken)

-- the fragments without FEC
parted : (g : Settings) (packet : List ℕ) → Taken g (length packet) → g.fec ≡ false
    → Parted packet (size.f g (length packet)) (size.s g (length packet))
parted g packet taken plain =
    let l : ℕ = length packet in
    let f : ℕ = size.f g l in
    let s : ℕ = size.s g l in
    let in_bounds = within g l taken in
    let sure = bearing.sized g l in_bounds in
    let cut = L-plain g l plain in
    let some = bearing.f_some g l in_bounds in
    record {
      byte = λ q. part_byte packet s q (bearing.s_some g l in_bounds);
      full = λ i (h : i + 1 < f).
          let far : (i + 1) * s ≤ (f - 1) * s = mul-le-mul_right s (omega arith) in
          omega (arith, far, length_left packet s i, sure.last_held, cut);
      last = λ i (e : i + 1 ≡ f).
          let here : i * s ≡ (f - 1) * s = ap (λ (x : ℕ). x * s) (omega arith) in
          let full = bearing.s_some g l in_bounds in
          (omega (arith, here, length_left packet s i, sure.last_held, cut), omega (arith, length_left packet s i));
    }

-- each byte of a block or packet has one fragment and offset, and each chunk its own cells of the block
pub c4 : C4
c4 =
    record {
      woven = λ f s some. woven f s some;
      joined = λ block f s q some h. joined f s some block q h;
      windows = window;
      parted = parted;
    }

pub c5 : C5
unfolding missing
c5 n f some =
    ((λ lost j. most lost f some (j * n) n), (λ w few. (firsts-lost n f w some few, firsts-take n f w some few)))

-- with FEC, after the losses that a cut assures or fewer no chunk misses more than 48 bytes, and what is held suffices
pub c6 : C6
c6 g l taken with_fec_lem lost few =
    let all = bearing.bears g l (within g l taken) with_fec_lem lost few in
    (all, suffice_from lost (size.f g l) (size.n l) (size.c l) (λ j h. all j))

-- so any m lost fragments leave enough there, where a sender is set for m
pub c6m : C6m
c6m g l taken with_fec_lem sure lost few = c6 g l taken with_fec_lem lost (omega (arith, few, (editions.assured_is g l).m_sure sure))

-- ---- the two rules of sizes

pub assured_is : AssuredIs
assured_is = editions.assured_is

pub five_not_always : FiveNotAlways
five_not_always = editions.five_not_always

pub one_up : OneUp
one_up = editions.one_up

pub same_refusals : SameRefusals
same_refusals = editions.same_refusals

pub same_at_none : SameAtNone
same_at_none = editions.same_at_none

-- ---- the settings that have a name

-- settings in bounds with FEC, m above 0 and 41 bytes behind a header are settings for m losses
set_for : (g : Settings) → fit g ≡ true → g.fec ≡ true → (g.m ≡ 0 → ⊥) → 41 ≤ g.mtu - size.h g → ((l : ℕ) → SureOfM g l) → SetFor g g.m
set_for g fits with_fec_lem more wide sure =
    record {
      takes = λ l from to. sym (plan_taken g l fits from to (bearing.few g l (fitted g fits) with_fec_lem more wide from to));
      tells = λ l. (editions.assured_is g l).m_sure (sure l);
      bears = λ l taken. c6m g l taken with_fec_lem (sure l);
    }

-- at the house default no length of 12 to 8,192 is refused, the plan tells one loss, and any one lost leaves enough
pub house_bears : HouseBears
unfolding fit size.h size.address_bytes
house_bears = set_for house_of refl refl (λ (none : 1 ≡ 0). omega arith) (lit≤ tt) (λ l newer (five : 1 ≡ 5). omega arith)

-- at the house default any two lost fragments leave enough too: 24 bytes of a chunk twice are 48
pub house_bears_more : HouseBearsMore
unfolding size.divisor
house_bears_more l taken lost few =
    let thin : size.S house_of l ≤ size.c l * 24 = omega (arith, S-both house_of l (λ (none : 1 ≡ 0). omega arith)) in
    let all = bearing.borne house_of l (within house_of l taken) refl 24 2 thin (lit≤ tt) lost few in
    (all, suffice_from lost (size.f house_of l) (size.n l) (size.c l) (λ j h. all j))

-- at the setting for two losses no length of 12 to 8,192 is refused, the plan tells two, and any two lost leave enough
pub two_borne : TwoBorne
unfolding fit size.h size.address_bytes
two_borne = set_for two_losses_of refl refl (λ (none : 2 ≡ 0). omega arith) (lit≤ tt) (λ l newer (five : 2 ≡ 5). omega arith)

-- ---- document 01's edge

-- the definitions give the sizes in all the starred rows of document 01's edge, and in the rows that document 02 adds
pub edge_rows : map (λ (r : Row). r.gives) rows ≡ map (λ (r : Row). r.says) rows
unfolding rows part_of ceil worst size.c size.k size.z size.n size.address_bytes size.h size.divisor size.S size.L size.f size.s size.assured
edge_rows = refl

-- at l 415 and m 2 there are chunks of 187 bytes in 12 fragments
cut_415 : (size.f (fec 2) 415 ≡ 12) × (size.n 415 ≡ 187) × (size.c 415 ≡ 3)
unfolding ceil size.c size.k size.n size.address_bytes size.h size.divisor size.S size.L size.f
cut_415 = (refl, refl, refl)

three : (lost : ℕ → Bool) → losses lost 12 ≤ 3 → (j : ℕ) → missing lost 12 187 j ≤ parity
unfolding missing worst
three lost few j = omega (arith, most lost 12 (omega arith) (j * 187) 187, worst_more 187 12 (losses lost 12) 3 few)

four : (lost : ℕ → Bool) → 4 ≤ losses lost 12 → (j : ℕ) → parity < missing lost 12 187 j
unfolding missing
four lost many j = omega (arith, fewest lost 12 (omega arith) (j * 187) 187)

-- at l 415 and m 2, whichever three fragments or fewer are lost, the others suffice
pub any_three : AnyThree
any_three lost = rw (cut_415.0, cut_415.1, cut_415.2) (λ few. suffice_from lost 12 187 3 (λ j h. three lost few j))

-- at l 415 and m 2, whichever four fragments or more are lost, the others do not suffice
pub no_four : NoFour
no_four lost = rw (cut_415.0, cut_415.1, cut_415.2) (λ many. suffice_no lost 12 187 3 0 (omega arith) (four lost many 0))
