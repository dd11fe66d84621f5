-- The losses that a cut stands, at the settings: what a cut that is not refused brings to Stands.antt. Assumes nothing.
use mathlib.Core.Path.{◌≡◌, refl, ap, ◌∙◌}
use mathlib.Core.Bool.{true, false}
use Prim.Native.Nat.{ℕ, ◌+◌, ◌*◌, ◌≤◌, ◌<◌}
use native.Mathlib.Nat.{le-div_iff_mul-le, le-mul_of_pos_right}
use native.Mathlib.Omega.{arith, by_contra}
use borrow.Author.Tests.{ne_eqb, le-ltb}
use Rattle.base_rules.specs.Bounds.{parity}
use Rattle.cut_rules.specs.Claims.{Taken}
use Rattle.cut_rules.specs.Missing.{losses, missing, firsts}
use Rattle.cut_rules.specs.Plan.{plan_fault}
use Rattle.cut_rules.specs.Sizes.{c, k, n, f, s, assured, received_c}
use Rattle.cut_rules.specs.declared.Settings.{Settings}
use Rattle.cut_rules.proofs.Bearing as bearing
use Rattle.cut_rules.proofs.ChunkSizes as chunk
use Rattle.cut_rules.proofs.Editions.{assured_most}
use Rattle.cut_rules.proofs.LossCounts.{firsts-lost}
use Rattle.cut_rules.proofs.PlanCases.{fitted, Within, within, L-fec}
use Rattle.base_rules.proofs.Logic.{either}
use Rattle.endurance_rules.specs.Claims.{is_handed_out}
use Rattle.endurance_rules.specs.Endure.{stands, stands_of, losing, endure_call}
use Rattle.endurance_rules.proofs.Stands as standing
use Rattle.endurance_rules.proofs.Flags.{flag_at, flags-lost, flags-missing}

module _ (g : Settings) (l : ℕ) where
  -- with FEC it is the figure of n and f, without FEC 0
  pub stands_fec : g.fec ≡ true → stands_of g l ≡ stands (n l) (f g l)
  unfolding stands_of
  stands_fec e = rw e

  pub stands_plain : g.fec ≡ false → stands_of g l ≡ 0
  unfolding stands_of
  stands_plain e = rw e

  module _ (in_bounds : Within g l) where
    length_some : 0 < l
    length_some = omega (arith, in_bounds.from)

    -- a cut in bounds has fragments, and more bytes in a chunk than may be missing
    pub some : 0 < f g l
    some = bearing.f_some g l in_bounds

    pub much : parity < n l
    much = omega (arith, chunk.n_least l length_some)

    -- the receiver takes a chunk or more: what is cut has one whole, and the fragments hold all of it
    pub chunks_some : g.fec ≡ true → 0 < received_c (f g l) (s g l) (k l)
    unfolding received_c n
    chunks_some fec =
        let one : n l ≤ n l * c l = le-mul_of_pos_right (n l) (chunk.c_some l length_some) in
        let long : 0 < n l = omega (arith, much) in
        (le-div_iff_mul-le {k = k l + parity} long).1 (omega (arith, one, L-fec g l fec, (bearing.sized g l in_bounds).all_held))

    -- with FEC or without, not all fragments can be lost
    pub below : stands_of g l < f g l
    below = either g.fec
        (λ e. omega (arith, stands_fec e, standing.below (n l) (f g l) some much))
        (λ e. omega (arith, stands_plain e, some))

    -- the losses that the plan assures leave every chunk at most 48 short, and one more than the cut stands do not
    pub assured-within : assured g l ≤ stands_of g l
    assured-within = either g.fec
        (λ e. by_contra (assured g l) (stands_of g l) (λ (more : stands_of g l < assured g l).
        let v : ℕ = stands_of g l + 1 in
        let few : v ≤ f g l = omega (arith, below) in
        let lost = firsts-lost (n l) (f g l) v some few in
        let borne = bearing.bears g l in_bounds e (firsts v) (omega (arith, lost, more)) 0 in
        omega (arith, borne, standing.too_many (n l) (f g l) some much v (omega (arith, stands_fec e)) few)))
        (λ e. omega (arith, assured_most g l, (fitted g in_bounds.ok).m-fec e))

  -- where the plan is not refused the set has one fragment more than the cut stands
  pub losing-taken : Taken g l → losing g l ≡ stands_of g l + 1
  unfolding losing
  losing-taken taken = rw taken refl

  -- and where it is refused none
  pub losing-refused : (Taken g l → ⊥) → losing g l ≡ 0
  unfolding losing
  losing-refused refused = rw (ne_eqb (plan_fault g l) 0 refused) refl

-- ---- the set that is handed out, none where the plan is refused

-- no fragment is in it then
pub handed_none : (g : Settings) (l : ℕ) → (Taken g l → ⊥) → (i : ℕ) → is_handed_out g l i ≡ false
unfolding endure_call
handed_none g l refused i =
    flag_at (losing g l) i ∙ ap (λ (v : ℕ). firsts v i) (losing-refused g l refused) ∙ le-ltb i 0 (omega arith)

-- ---- of a cut that is not refused: the first w + 1

module _ (g : Settings) (l : ℕ) (taken : Taken g l) where
  -- fragment i is in it where i is one of the first w + 1,
  pub handed_at : (i : ℕ) → is_handed_out g l i ≡ firsts (stands_of g l + 1) i
  unfolding endure_call
  handed_at i = flag_at (losing g l) i ∙ ap (λ (v : ℕ). firsts v i) (losing-taken g l taken)

  -- it has w + 1 fragments,
  pub handed-lost : losses (is_handed_out g l) (f g l) ≡ stands_of g l + 1
  unfolding endure_call
  handed-lost =
      let in_bounds = within g l taken in
      flags-lost (losing g l) (f g l)
      ∙ ap (λ (v : ℕ). losses (firsts v) (f g l)) (losing-taken g l taken)
      ∙ firsts-lost (n l) (f g l) (stands_of g l + 1) (some g l in_bounds) (omega (arith, below g l in_bounds))

  -- and takes of the first chunk what these take
  pub handed-missing : missing (is_handed_out g l) (f g l) (n l) 0 ≡ missing (firsts (stands_of g l + 1)) (f g l) (n l) 0
  unfolding endure_call
  handed-missing =
      flags-missing (losing g l) (f g l) (n l) 0
      ∙ ap (λ (v : ℕ). missing (firsts v) (f g l) (n l) 0) (losing-taken g l taken)
