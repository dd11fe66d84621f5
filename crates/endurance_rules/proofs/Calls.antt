-- The call by the plan's answer: which case of a plan is which case of the call, and what its figures are. Assumes nothing.
use mathlib.Core.Path.{◌≡◌, refl, sym, ap, ap₂, ◌∙◌}
use mathlib.Core.Bool.{Bool, true, false, cond}
use mathlib.Core.List.{List, [], ◌∷◌}
use Prim.Native.Nat.{ℕ, zero, suc, ◌+◌, ◌≤◌, ◌<◌}
use native.Mathlib.Omega.{arith}
use lib.ListN.{get_or}
use Rattle.std.specs.Prelude.{Ok, Err}
use Rattle.base_rules.specs.Answer.{Answer, granted, refused, answered}
use Rattle.base_rules.specs.Bounds.{most_f, most_k, parity}
use Rattle.base_rules.specs.Refusal.{number, told}
use Rattle.base_rules.specs.declared.Refusal.{Refusal}
use Rattle.cut_rules.specs.Plan.{plan_fault, with_fec, figures_of, plan_of, values_of, number_of}
use Rattle.cut_rules.specs.Sizes.{n, f}
use Rattle.cut_rules.specs.declared.Figures.{Figures}
use Rattle.cut_rules.specs.declared.Settings.{Settings}
use Rattle.cut_rules.proofs.ChunkSizes as chunk
use Rattle.cut_rules.proofs.PlanCases.{within}
use Rattle.endurance_rules.specs.Claims.{NoNewRefusals}
use Rattle.endurance_rules.specs.Endure.{stands, stands_of, flagged, endure_call, endured_number, losses_values}
use Rattle.endurance_rules.proofs.Cuts as cuts

-- an answer that grants has no fault, and the values are those due
granted_by : (fault : ℕ) (u v : List ℕ) → granted u ≡ answered fault v → (fault ≡ 0) × (u ≡ v)
unfolding answered
granted_by zero u v e = (refl, cc)
granted_by (suc fault) u v e = let z : ◌≡◌ {A = ℕ} 0 1 = cc in absurd (omega arith)

-- one that refuses has a fault, and refuses whatever would be granted
pub refused_by : (fault number : ℕ) (u v : List ℕ) → refused number ≡ answered fault u → (refused number ≡ answered fault v) × (fault ≡ 0 → ⊥)
unfolding answered
refused_by zero number u v e = let z : ◌≡◌ {A = ℕ} 0 1 = cc in absurd (omega arith)
refused_by (suc fault) number u v e = (e, (λ (z : suc fault ≡ 0). omega arith))

module _ (g : Settings) (l : ℕ) where
  -- a plan that is answered with figures is not refused
  module _ (p : Figures) (e : number_of (Ok p) ≡ plan_of g l) where
    both : (plan_fault g l ≡ 0) × (values_of p ≡ figures_of g l)
    unfolding plan_of number_of told
    both = granted_by (plan_fault g l) (values_of p) (figures_of g l) e

    -- its f is that of the cut,
    f_is : p.f ≡ f g l
    unfolding values_of figures_of
    f_is = ap (λ (v : List ℕ). get_or v 7 0) both.1

    -- and with FEC its n too
    n_is : g.fec ≡ true → p.n ≡ n l
    unfolding values_of figures_of with_fec
    n_is fec = ap (λ (v : List ℕ). get_or v 3 0) both.1 ∙ ap (λ (b : Bool). cond b (n l) 0) fec

    -- so it can be asked how many losses they stand,
    pub askable : g.fec ≡ true → (0 < p.f) × (parity < p.n) × (p.n ≤ most_k + parity)
    unfolding n
    askable fec =
        let in_bounds = within g l both.0 in (
          omega (arith, f_is, cuts.some g l in_bounds),
          omega (arith, n_is fec, cuts.much g l in_bounds),
          omega (arith, n_is fec, chunk.k_most l (omega (arith, in_bounds.from))),
        )

    -- which is below 256
    few : stands_of g l < most_f
    few = let in_bounds = within g l both.0 in omega (arith, cuts.below g l in_bounds, in_bounds.few)

    pub stood-fec : (w : ℕ) → g.fec ≡ true → w ≡ stands p.n p.f → (w ≡ stands_of g l) × (w < most_f)
    stood-fec w fec is =
        let all : w ≡ stands_of g l = is ∙ ap₂ stands (n_is fec) f_is ∙ sym (cuts.stands_fec g l fec) in
        (all, omega (arith, all, few))

    pub stood-plain : g.fec ≡ false → (0 ≡ stands_of g l) × (0 < most_f)
    stood-plain plain = (sym (cuts.stands_plain g l plain), omega arith)

    -- the answer with the set of one more
    pub endured : (w : ℕ) (lost : List Bool) → w ≡ stands_of g l → lost ≡ flagged (w + 1)
        → (endured_number (Ok (record { most = w; f = p.f })), lost) ≡ endure_call g l
    unfolding endure_call endured_number losses_values told answered
    endured w lost is set =
        let none = both.0 in
        let due : answered (plan_fault g l) (stands_of g l ∷ f g l ∷ []) ≡ granted (stands_of g l ∷ f g l ∷ []) =
        ap (λ (x : ℕ). answered x (stands_of g l ∷ f g l ∷ [])) none in
        ap₂ (λ (a : Answer) (b : List Bool). (a, b))
        (ap₂ (λ (x y : ℕ). granted (x ∷ y ∷ [])) is f_is ∙ sym due)
        (set ∙ ap (λ (x : ℕ). flagged (x + 1)) is ∙ sym (ap flagged (cuts.losing-taken g l none)))

  -- a plan that is refused: the same number, and no fragment in the set
  pub unendured : (e : Refusal) (lost : List Bool) → number_of (Err e) ≡ plan_of g l → lost ≡ flagged 0
      → (endured_number (Err e), lost) ≡ endure_call g l
  unfolding plan_of number_of told endure_call endured_number
  unendured e lost due set =
      let all = refused_by (plan_fault g l) (number e) (figures_of g l) (stands_of g l ∷ f g l ∷ []) due in
      ap₂ (λ (a : Answer) (b : List Bool). (a, b)) all.0 (set ∙ sym (ap flagged (cuts.losing-refused g l all.1)))

-- the refusals are the plan's
pub no_new_refusals : NoNewRefusals
unfolding endure_call plan_of
no_new_refusals g l number =
    let values : List ℕ = stands_of g l ∷ f g l ∷ [] in (
      (λ e. sym (refused_by (plan_fault g l) number values (figures_of g l) (sym e)).0),
      (λ e. sym (refused_by (plan_fault g l) number (figures_of g l) values (sym e)).0),
    )
