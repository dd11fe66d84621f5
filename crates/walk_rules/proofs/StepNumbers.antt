-- The number and values of a step, by the faults of the walk, of its list of names and of the packet where the step comes to. Assumes nothing.
use Prim.Native.Nat.{ℕ, zero, suc, ◌+◌, ◌-◌, min}
use mathlib.Core.Bool.{Bool, true, false, cond, not, ◌&&◌}
use mathlib.Core.List.{List, [], ◌∷◌}
use mathlib.Core.Path.{◌≡◌, refl, ap, ◌∙◌}
use lib.Dec.{ltb, leb}
use Rattle.base_rules.specs.Answer.{granted, answered}
use Rattle.base_rules.specs.Bytes.{number_at}
use Rattle.base_rules.specs.Tests.{first}
use Rattle.base_rules.proofs.Logic.{either, clash}
use Rattle.item_rules.specs.declared.Bytes.{Bytes}
use Rattle.std.specs.Prelude.{Ok, Err}
use Rattle.base_rules.specs.Refusal.{number, told_number}
use Rattle.base_rules.specs.declared.Refusal.{Refusal}
use Rattle.base_rules.specs.declared.Refusal.TheVariants as refusal
use Rattle.item_rules.specs.declared.Item.{Item}
use Rattle.item_rules.specs.declared.Step.TheVariants as step
use Rattle.item_rules.specs.Item.{head, bytes_for, item_at, step_in, values_of, overrun_in}
use Rattle.item_rules.specs.Run.{on_step}
use Rattle.item_rules.proofs.Numbers.{else_number}
use Rattle.walk_rules.specs.declared.Handed.TheVariants as handed
use Rattle.walk_rules.specs.declared.Walked.{Walked}
use Rattle.walk_rules.specs.declared.Walker.{Walker}
use Rattle.walk_rules.specs.Names.{deepest, names_of}
use Rattle.walk_rules.specs.Step.{values_out, handed_number, goes_on, end_of, step_from, step_fault, walk_step}
use Rattle.walk_rules.specs.Step.{comes_to, overrun_at, handed_values, place_of, walk_call}

-- by the two tests: whether padding stands there, of which `up` says what is handed out, and whether the item fits
handed_by_lem : (d : ℕ) (pads fits : Bool) (p : Bytes) (i : Item) (on : Item → Walker) (up : ℕ → Walked) (stay : Refusal → Walker)
    → (pads ≡ true → handed_number (up p.0).handed ≡ granted (p.0 ∷ []))
    → handed_number (on_step (cond pads (Ok (step.End p)) (cond fits (Ok (step.Item i)) (Err refusal.Overrun)))
    (λ j. record { handed = Ok (handed.Item (record { depth = d; item = j })); next = on j }) up (λ x. record { handed = Err (number x); next = stay x })
    ).handed ≡ answered (first ((not pads && not fits, 30) ∷ [])) (cond pads (p.0 ∷ []) (d ∷ values_of i))
unfolding handed_number told_number values_out number answered first
handed_by_lem d true fits p i on up stay h = h refl
handed_by_lem d false true p i on up stay h = refl
handed_by_lem d false false p i on up stay h = refl

module _ (s cs ends : List ℕ) where
  -- what a step hands out from `at` at depth d, as number and values
  abbrev Numbered : ℕ → ℕ → Type 0
  Numbered at d = handed_number (step_from s cs at d ends).handed ≡ answered (overrun_at s ends (comes_to s at d ends)) (handed_values s ends (comes_to s at d ends))

  pads_at : ℕ → ℕ → Bool
  pads_at at d = ltb (end_of s ends d - at) head

  -- at an inner packet's padding it is what a step hands out behind the container,
  up_by : (at d : ℕ) → pads_at at (suc d) ≡ true → Numbered (end_of s ends (suc d)) d → Numbered at (suc d)
  unfolding step_from step_in comes_to pads_at
  up_by at d q rest = simp q rest

  -- else what stands there
  here_by : (at d : ℕ) → pads_at at (suc d) ≡ false → Numbered at (suc d)
  unfolding step_from step_in comes_to pads_at overrun_at overrun_in handed_values
  here_by at d q =
      let here = handed_by_lem (suc d) (pads_at at (suc d)) (leb (head + bytes_for (number_at 4 s (at + 4))) (end_of s ends (suc d) - at))
      (record { 0 = end_of s ends (suc d) - at }) (item_at s at) (goes_on cs (suc d) ends) (λ p. step_from s cs (end_of s ends (suc d)) d ends)
      (λ n. record { refusal = 0; at = at; depth = suc d; ends = ends }) (λ t. clash t q) in
      simp q (rw q at here)

  numbered : (d at : ℕ) → Numbered at d
  unfolding step_from step_in comes_to overrun_at overrun_in handed_values handed_number told_number values_out
  numbered zero at =
      handed_by_lem 0 (ltb (end_of s ends 0 - at) head) (leb (head + bytes_for (number_at 4 s (at + 4))) (end_of s ends 0 - at))
      (record { 0 = end_of s ends 0 - at }) (item_at s at) (goes_on cs 0 ends)
      (λ p. record { handed = Ok (handed.End (record { 0 = p })); next = record { refusal = 0; at = at; depth = 0; ends = ends } })
      (λ n. record { refusal = 0; at = at; depth = 0; ends = ends }) (λ t. refl)
  numbered (suc d) at = either (pads_at at (suc d)) (λ q. up_by at d q (numbered d (end_of s ends (suc d)))) (here_by at d)

module _ (s l : List ℕ) (w : Walker) where
  -- the number of a step is that of the walk or of its list of names, or else that of the packet's fault where it comes to
  pub walk_number : handed_number (walk_step s l w).handed ≡ walk_call s l w
  unfolding walk_step walk_call place_of handed_number told_number
  walk_number =
      else_number (λ (x : Walked). handed_number x.handed) (step_from s (names_of l) w.at (min w.depth deepest) w.ends)
      (record { handed = Err (step_fault l w); next = w }) (step_fault l w) _ _ (numbered s (names_of l) w.ends (min w.depth deepest) w.at)
      (λ some. refl)

  -- so a step that is the defined one has that number
  pub walk_told : (x : Walked) → x ≡ walk_step s l w → (x ≡ walk_step s l w) × (handed_number x.handed ≡ walk_call s l w)
  walk_told x e = (e, ap (λ (y : Walked). handed_number y.handed) e ∙ walk_number)
