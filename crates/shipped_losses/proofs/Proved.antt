-- The claims of specs/Claims.antt. Assumes nothing.
use mathlib.Core.Path.{◌≡◌, refl, sym, ap, ◌∙◌}
use mathlib.Core.Bool.{Bool, true, false, cond}
use mathlib.Core.List.{map}
use Prim.Native.Nat.{ℕ, ◌+◌, ◌≤◌, ◌<◌}
use native.Mathlib.Omega.{arith}
use borrow.Author.Tests.{eq-eqb, ltb-true}
use lib.ListN.{length}
use Rattle.base_rules.proofs.Logic.{either, clash}
use Rattle.cut_rules.specs.Missing.{losses, firsts}
use Rattle.cut_rules.specs.Sizes as size
use Rattle.cut_rules.proofs.PlanCases.{within}
use Rattle.endurance_rules.specs.Claims.{is_handed_out}
use Rattle.endurance_rules.specs.Endure.{stands_of}
use Rattle.endurance_rules.proofs.Cuts as cuts
use Rattle.endurance_rules.proofs.Proved as endurance
use Rattle.form_rules.specs.Agree.{enough}
use Rattle.link.specs.Demand as link
use Rattle.link.specs.Run.{lost}
use Rattle.link.proofs.Enough.{losses-same, enough_more}
use Rattle.shipped.specs.Main.{settings, count, key, enough_after}
use Rattle.shipped.specs.Runs.{call_of}
use Rattle.shipped.proofs.Sent.{count_is}
use Rattle.shipped_losses.specs.Claims.{in_set, EndureTells, Survives, SurvivesNot}
use Rattle.shipped_losses.proofs.Told.{planned, read, set_at, set_is}

-- a choice by a flag, whichever way it goes
either_way : (b x y v : Bool) → (b ≡ true → x ≡ v) → (b ≡ false → y ≡ v) → cond b x y ≡ v
either_way true x y v p q = p refl
either_way false x y v p q = q refl

-- what is told fits what bailhammer_fragments told and the plan assures
pub endure_tells : EndureTells
endure_tells c cut told given asked =
    let g = settings c in
    let l = length c.packet in
    let fine = planned c cut in
    let there = read c cut told given asked in
    let most = there.1.most in
    let all = count_is c cut in
    record {
      done = there.0;
      fragments = there.1.count ∙ sym all;
      below = omega (arith, most, all, endurance.below g l fine);
      assures = omega (arith, most, endurance.assured-within g l fine);
      one_more =
          ap (losses (in_set told)) all
          ∙ losses-same (in_set told) (is_handed_out g l) (size.f g l) (cuts.some g l (within g l fine)) (set_is c cut told given asked)
          ∙ cuts.handed-lost g l fine
          ∙ ap (λ (w : ℕ). w + 1) (sym most);
      first_ones = λ i inside.
          set_at c cut told given asked i inside
          ∙ cuts.handed_at g l fine i
          ∙ ap (λ (w : ℕ). firsts (w + 1) i) (sym most);
    }

-- where as many have not come as are told, it is enough
pub survives : Survives
unfolding link.enough_after
survives c cut told given asked es few =
    let g = settings c in
    let l = length c.packet in
    let fine = planned c cut in
    let gone : ℕ → Bool = lost (key c) (map call_of es) in
    let all : losses gone (count c) ≡ losses gone (size.f g l) = ap (losses gone) (count_is c cut) in
    let less : losses gone (size.f g l) ≤ stands_of g l = omega (arith, few, all, (read c cut told given asked).1.most) in
    either_way g.fec _ _ true
    (λ e. endurance.endures g l fine e gone less)
    (λ e. eq-eqb (losses gone (size.f g l)) 0 (omega (arith, less, cuts.stands_plain g l e)))

-- until one of the set comes, it is not
pub survives_not : SurvivesNot
unfolding link.enough_after enough size.n
survives_not c cut told given asked es none =
    let g = settings c in
    let l = length c.packet in
    let fine = planned c cut in
    let gone : ℕ → Bool = lost (key c) (map call_of es) in
    let within-f : (i : ℕ) → is_handed_out g l i ≡ true → i < size.f g l =
    λ i (e : is_handed_out g l i ≡ true).
    omega (arith, ltb-true i (stands_of g l + 1) (sym (cuts.handed_at g l fine i) ∙ e), endurance.below g l fine) in
    let less : (i : ℕ) → is_handed_out g l i ≡ true → gone i ≡ true =
    λ i (e : is_handed_out g l i ≡ true).
    none i (omega (arith, within-f i e, count_is c cut)) (set_is c cut told given asked i (within-f i e) ∙ e) in
    let short : enough g.fec (size.f g l) (size.s g l) (size.k l) (is_handed_out g l) ≡ false =
    either_way g.fec _ _ false (λ e. (endurance.endures_not g l fine e).short) (λ e. (endurance.no_fec g l fine e).short) in
    either (enough_after c es)
    (λ yes. clash (enough_more (is_handed_out g l) gone (size.f g l) less g.fec (size.s g l) (size.k l) yes) short)
    (λ no. no)
