-- The plan of a cut: what may be asked for, and what is answered (document 01, "Numbers given back").
use Rattle.std.specs.Prelude.{Bool, true, cond, not, ◌&&◌, List, [], ◌∷◌, ℕ, leb, ltb, eqb, None, Result}
use Rattle.base_rules.specs.Bounds.{least_l, most_l, most_f, most_m, most_mtu}
use Rattle.base_rules.specs.Tests.{first}
use Rattle.base_rules.specs.Answer.{Answer, answered}
use Rattle.base_rules.specs.Refusal.{told}
use Rattle.base_rules.specs.declared.Refusal.{Refusal}
use Rattle.cut_rules.specs.Sizes.{c, k, z, n, h, S, L, f, s, assured}
use Rattle.cut_rules.specs.declared.Rule.TheVariants.{Older}
use Rattle.cut_rules.specs.declared.Settings.{Settings}
use Rattle.cut_rules.specs.declared.Figures.{Figures}

-- document 02, Item 5: "The house default becomes m = 1"; all else is as document 01 has it
abbrev pub house_of : Settings
house_of = record { fec = true; m = 1; mtu = 1400; address = None; rule = Older }

-- document 01, "Bounds": "House default: FEC on, m = 2, MTU 1,400, no address", which document 02, Item 5, keeps "under a name of its own"
abbrev pub two_losses_of : Settings
two_losses_of = record { fec = true; m = 2; mtu = 1400; address = None; rule = Older }

-- document 01, 40 SETTINGS: m at most 5, and 0 without FEC; MTU above h and at most 16,384
unfoldable pub fit : Settings → Bool
fit g = leb g.m most_m && (cond g.fec true (eqb g.m 0) && (ltb (h g) g.mtu && leb g.mtu most_mtu))

-- "Senders: 40, AF checks, 41": of the AF checks those that a length alone can fail
unfoldable pub plan_fault : Settings → ℕ → ℕ
plan_fault g l = first ((not (fit g), 40) ∷ (ltb l least_l, 20) ∷ (ltb most_l l, 22) ∷ (ltb most_f (f g l), 41) ∷ [])

-- clause 7.2.2: c, k and z are zero if Reed Solomon is not in use, and so is n
unfoldable pub with_fec : Settings → ℕ → ℕ
with_fec g x = cond g.fec x 0

-- the figures of clause 7.2 that a plan is answered with, in the order of `values_of`
unfoldable pub figures_of : Settings → ℕ → List ℕ
figures_of g l =
    with_fec g (c l) ∷ with_fec g (k l) ∷ with_fec g (z l) ∷ with_fec g (n l) ∷ h g ∷ S g l ∷ L g l ∷ f g l ∷ s g l ∷ assured g l ∷ []

-- what a plan is answered: the first number that is due, else the figures
unfoldable pub plan_of : Settings → ℕ → Answer
plan_of g l = answered (plan_fault g l) (figures_of g l)

-- the values that the answer carries, in the order of `figures_of`
unfoldable pub values_of : Figures → List ℕ
values_of p = p.c ∷ p.k ∷ p.z ∷ p.n ∷ p.h ∷ p.room ∷ p.total ∷ p.f ∷ p.s ∷ p.assured ∷ []

-- document 01's number and the values, for each case
unfoldable pub number_of : Result Figures Refusal → Answer
number_of r = told values_of r
