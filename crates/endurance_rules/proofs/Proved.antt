-- The claims of specs/Claims.antt, each by citation. Assumes nothing.
use mathlib.Core.Path.{◌≡◌, refl, sym, ap, ap₂, ◌∙◌}
use mathlib.Core.Bool.{Bool}
use mathlib.Core.List.{List}
use Prim.Native.Nat.{ℕ, zero, suc, ◌+◌}
use native.Mathlib.Omega.{arith}
use borrow.Author.Tests.{le-ltb, ne_eqb}
use lib.Dec.{eqb, ltb}
use Rattle.std.specs.Prelude.{Result}
use Rattle.base_rules.specs.Answer.{Answer}
use Rattle.base_rules.specs.Round.{ceil}
use Rattle.cut_rules.specs.Missing.{losses, firsts}
use Rattle.cut_rules.specs.Sizes as size
use Rattle.cut_rules.proofs.PlanCases.{within}
use Rattle.cut_rules.proofs.Sufficing.{suffice_no}
use Rattle.endurance_rules.specs.Claims.{is_handed_out, Endures, EnduresNot, Greatest, Below, AssuredWithin, StandsIs, NoFec}
use Rattle.endurance_rules.specs.Claims.{FirstOnes, NoneRefused, NoNewRefusals, OneEndured, examples, Worked}
use Rattle.endurance_rules.specs.Endure.{stands, stands_of, endured_number, losses_values}
use Rattle.endurance_rules.specs.declared.Losses.{Losses}
use Rattle.base_rules.proofs.Answers.{one_told}
use Rattle.base_rules.specs.declared.Refusal.{Refusal}
use Rattle.endurance_rules.proofs.Calls as calls
use Rattle.endurance_rules.proofs.Cuts as cuts
use Rattle.endurance_rules.proofs.Exact as exact
use Rattle.endurance_rules.proofs.Stands as standing

-- ---- the figure

-- with FEC, any w lost fragments or fewer leave every chunk that the receiver takes at most 48 bytes short
pub endures : Endures
endures g l taken fec lost few =
    let in_bounds = within g l taken in
    standing.endures (size.n l) (size.f g l) (cuts.some g l in_bounds) (cuts.much g l in_bounds) lost (omega (arith, few, cuts.stands_fec g l fec))
    (size.received_c (size.f g l) (size.s g l) (size.k l))

-- no greater number of losses does
pub greatest : Greatest
greatest g l taken fec v few all =
    let in_bounds = within g l taken in
    let most = standing.greatest (size.n l) (size.f g l) (cuts.some g l in_bounds) (cuts.much g l in_bounds) v
    (size.received_c (size.f g l) (size.s g l) (size.k l)) few (cuts.chunks_some g l in_bounds fec) all in
    omega (arith, most, cuts.stands_fec g l fec)

-- w is below f
pub below : Below
below g l taken = cuts.below g l (within g l taken)

-- and no less than the plan assures
pub assured-within : AssuredWithin
assured-within g l taken = cuts.assured-within g l (within g l taken)

-- of n and f, w is the last number of losses that take at most 48 bytes of a chunk
pub stands_is : StandsIs
stands_is n f some much = exact.exact n f some much

-- ---- the set that is handed out

-- with FEC its loss leaves too little
pub endures_not : EnduresNot
endures_not g l taken fec =
    let in_bounds = within g l taken in
    let few = cuts.below g l in_bounds in
    let more = standing.too_many (size.n l) (size.f g l) (cuts.some g l in_bounds) (cuts.much g l in_bounds) (stands_of g l + 1)
    (omega (arith, cuts.stands_fec g l fec)) (omega (arith, few)) in
    record {
      one_more = cuts.handed-lost g l taken;
      of_the_cut = λ i past. cuts.handed_at g l taken i ∙ le-ltb i (stands_of g l + 1) (omega (arith, few, past));
      short = suffice_no (is_handed_out g l) (size.f g l) (size.n l) _ 0 (cuts.chunks_some g l in_bounds fec)
          (omega (arith, more, cuts.handed-missing g l taken));
    }

-- it is the first w + 1 fragments
pub first_ones : FirstOnes
first_ones = cuts.handed_at

-- and none where the plan is refused
pub none_refused : NoneRefused
none_refused = cuts.handed_none

-- without FEC it is fragment 0, and any loss is one too many
pub no_fec : NoFec
no_fec g l taken plain =
    let none = cuts.stands_plain g l plain in
    record {
      none = none;
      first_alone = λ i. cuts.handed_at g l taken i ∙ ap (λ (w : ℕ). firsts (w + 1) i) none ∙ one_is_none i;
      one = cuts.handed-lost g l taken ∙ ap (λ (w : ℕ). w + 1) none;
      short = ne_eqb _ 0 (λ (e : losses (is_handed_out g l) (size.f g l) ≡ 0). omega (arith, cuts.handed-lost g l taken));
    }
  where
    -- the first one is that with the number 0
    one_is_none : (i : ℕ) → ltb i 1 ≡ eqb i 0
    one_is_none zero = refl
    one_is_none (suc i) = le-ltb (suc i) 1 (omega arith) ∙ sym (ne_eqb (suc i) 0 (λ (e : suc i ≡ 0). omega arith))

-- ---- the answer

-- the refusals are the plan's
pub no_new_refusals : NoNewRefusals
no_new_refusals = calls.no_new_refusals

one_losses : (a b : Losses) → losses_values a ≡ losses_values b → a ≡ b
unfolding losses_values
one_losses a b e =
    let most : a.most ≡ b.most = cc in
    let f : a.f ≡ b.f = cc in
    ap₂ (λ (x y : ℕ). record { most = x; f = y }) most f

one_answer : (a b : Result Losses Refusal) → endured_number a ≡ endured_number b → a ≡ b
unfolding endured_number
one_answer a b e = one_told losses_values one_losses a b e

-- no two answers have the same number, values and set
pub one_endured : OneEndured
one_endured a b e =
    let answers : a.answer ≡ b.answer = one_answer a.answer b.answer (ap (λ (x : Answer × List Bool). x.0) e) in
    let sets : a.lost ≡ b.lost = ap (λ (x : Answer × List Bool). x.1) e in
    ap₂ (λ (x : Result Losses Refusal) (y : List Bool). record { answer = x; lost = y }) answers sets

-- the definitions give the worked examples
pub worked : Worked
unfolding examples stands_of stands ceil size.c size.k size.n size.address_bytes size.h size.divisor size.S size.L size.f
worked = refl
