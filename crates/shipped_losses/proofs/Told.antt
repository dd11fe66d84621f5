-- What bailhammer_endure tells of a packet that bailhammer_fragments wrote, read as w, f and the set of its cut. Assumes nothing.
use mathlib.Core.Path.{◌≡◌, refl, ap, ◌∙◌}
use mathlib.Core.Bool.{Bool, true, false}
use mathlib.Core.List.{List}
use Prim.Native.Nat.{ℕ, ◌<◌}
use native.Mathlib.Omega.{arith}
use lib.Dec.{eqb}
use lib.ListN.{length}
use Rattle.base_rules.specs.Bounds.{most_f}
use Rattle.base_rules.specs.Tests.{bit}
use Rattle.base_rules.proofs.Logic.{either}
use Rattle.cut_rules.specs.declared.Settings.{Settings}
use Rattle.cut_rules.specs.Plan.{fit, plan_fault}
use Rattle.cut_rules.specs.Sizes.{address_bytes, h, divisor, S, L, f}
use Rattle.cut_rules.proofs.PlanCases.{within}
use Rattle.endurance_rules.specs.Claims.{is_handed_out}
use Rattle.endurance_rules.specs.Endure.{stands_of, losing, endure_call}
use Rattle.sender_rules.proofs.Checks.{taken}
use Rattle.card_rules.specs.Calls.{address_of}
use Rattle.card_rules.specs.Claims.{EnduranceRead}
use Rattle.card_rules.specs.Endurance.{endure_for, endure_widths}
use Rattle.card_rules.specs.Sending.{settings_of}
use Rattle.card_rules.specs.Told.{told_length}
use Rattle.card_rules.proofs.Proved.{endurance_whole}
use Rattle.card_rules.proofs.ToldLaws.{told_as}
use Rattle.shipped.specs.Main.{Sending, settings, Cut}
use Rattle.shipped.proofs.Sent.{takes}
use Rattle.shipped_losses.specs.Claims.{Asked, in_set}

-- the call asks whether there is an address, and not which
same_asked : (fec m newer mtu addressed source dest l : ℕ)
    → endure_for (settings_of fec m newer mtu addressed 0 0) l ≡ endure_for (settings_of fec m newer mtu addressed source dest) l
unfolding settings_of address_of address_bytes h fit divisor S L f plan_fault stands_of losing endure_call endure_for
same_asked fec m newer mtu addressed source dest l = either (eqb addressed 0) (λ e. rw e) (λ e. rw e refl)

-- a flag as a number is 1 where it is set
bit_back : (b : Bool) → eqb (bit b) 1 ≡ b
bit_back true = refl
bit_back false = refl

module _ (c : Sending) (cut : Cut c) where
  abbrev g : Settings
  g = settings c

  abbrev l : ℕ
  l = length c.packet

  -- a packet that was written has a plan,
  pub planned : plan_fault g l ≡ 0
  planned = taken g c.packet (takes c cut).passed

  module _ (told : List ℕ) (given : ℕ) (asked : Asked c told given) where
    -- of which w, f and the set are told
    pub read : (given ≡ 0) × EnduranceRead g l told
    unfolding told_length
    read =
        let same = same_asked c.fec c.m c.newer c.mtu c.addressed c.source c.dest l in
        endurance_whole g l planned asked.before told given asked.room (told_as endure_widths asked.before same asked.meets)

    -- flag by flag,
    pub set_at : (i : ℕ) → i < most_f → in_set told i ≡ is_handed_out g l i
    set_at i inside = ap (λ (x : ℕ). eqb x 1) (read.1.set i inside) ∙ bit_back (is_handed_out g l i)

    -- and so for each fragment
    pub set_is : (i : ℕ) → i < f g l → in_set told i ≡ is_handed_out g l i
    set_is i inside = set_at i (omega (arith, (within g l planned).few))
