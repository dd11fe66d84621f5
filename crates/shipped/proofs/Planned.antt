-- What bailhammer_plan tells of a packet that bailhammer_fragments wrote: the losses assured. Assumes nothing.
use mathlib.Core.Path.{◌≡◌, refl, sym, ap, ◌∙◌}
use mathlib.Core.List.{List, [], ◌∷◌}
use Prim.Native.Nat.{ℕ, ◌<◌}
use native.Mathlib.Omega.{arith}
use lib.Dec.{eqb}
use lib.ListN.{length}
use Rattle.base_rules.specs.Answer.{Answer}
use Rattle.base_rules.specs.Bytes.{splice, number_at, bytes_of}
use Rattle.base_rules.proofs.Answers.{grants}
use Rattle.base_rules.proofs.Logic.{either}
use Rattle.base_rules.proofs.Numbers.{number_back}
use Rattle.cut_rules.specs.declared.Settings.{Settings}
use Rattle.cut_rules.specs.Plan.{fit, plan_fault, figures_of, plan_of}
use Rattle.cut_rules.specs.Sizes.{address_bytes, h, divisor, S, L, f, assured}
use Rattle.cut_rules.proofs.Editions.{assured_most}
use Rattle.cut_rules.proofs.PlanCases.{fitted, within}
use Rattle.sender_rules.proofs.Checks.{taken}
use Rattle.card_rules.specs.Calls.{address_of}
use Rattle.card_rules.specs.Sending.{settings_of, twos}
use Rattle.card_rules.specs.Told.{refusal_in, in_widths, told_length, told_of}
use Rattle.card_rules.proofs.TellLaws.{fits_room}
use Rattle.shipped.specs.Main.{settings, PlanTells}
use Rattle.shipped.proofs.Sent.{takes}

-- the tenth of ten numbers told in two bytes each stands in the bytes 18 and 19
tenth_back : (told : List ℕ) (a b c d e g i j k last : ℕ) → last < 65536
    → number_at 2 (splice told 0 (in_widths (twos 10) (a ∷ b ∷ c ∷ d ∷ e ∷ g ∷ i ∷ j ∷ k ∷ last ∷ []))) 18 ≡ last
unfolding splice in_widths bytes_of number_at
tenth_back told a b c d e g i j k last small = number_back 2 last [] small

-- a plan asks whether there is an address, and not which
same_fault : (fec m newer mtu addressed source dest l : ℕ)
    → plan_fault (settings_of fec m newer mtu addressed 0 0) l ≡ plan_fault (settings_of fec m newer mtu addressed source dest) l
unfolding settings_of address_of address_bytes h fit divisor S L f plan_fault
same_fault fec m newer mtu addressed source dest l = either (eqb addressed 0) (λ e. rw e) (λ e. rw e refl)

-- the last figure that a plan tells is the losses assured
pub plan_tells : PlanTells
unfolding plan_of figures_of told_length refusal_in told_of settings_of assured
plan_tells c cut told told_afterwards r room said =
    let l = length c.packet in
    let passed = (takes c cut).passed in
    let asked : Settings = settings_of c.fec c.m c.newer c.mtu c.addressed 0 0 in
    let fine : plan_fault asked l ≡ 0 =
    same_fault c.fec c.m c.newer c.mtu c.addressed c.source c.dest l ∙ taken (settings c) c.packet passed in
    let due = fits_room (twos 10) told (plan_of asked l) room ∙ sym (grants (plan_fault asked l) (figures_of asked l) (sym fine)) in
    let small : assured asked l < 65536 = omega (arith, assured_most asked l, (fitted asked (within asked l fine).ok).m_most) in (
      said.number ∙ ap refusal_in due,
      ap (λ (x : List ℕ). number_at 2 x 18) (said.told ∙ ap (λ (a : Answer). told_of (twos 10) a told) due)
          ∙ tenth_back told _ _ _ _ _ _ _ _ _ (assured asked l) small,
    )
