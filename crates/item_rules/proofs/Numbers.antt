-- The number and values of a step and of a search, by what stands in the packet. Assumes nothing.
use Prim.Native.Nat.{ℕ, zero, suc, ◌+◌, ◌-◌}
use mathlib.Core.Bool.{Bool, true, false, cond, not, ◌&&◌}
use mathlib.Core.List.{List, [], ◌∷◌}
use mathlib.Core.Path.{◌≡◌, refl, ap, ◌∙◌}
use native.Mathlib.Omega.{arith}
use lib.Dec.{eqb, ltb, leb}
use borrow.Author.Tests.{ne_eqb}
use Rattle.base_rules.specs.Answer.{Answer, granted, refused, answered}
use Rattle.std.specs.Prelude.{Result, Ok, Err, Option, Some, None}
use Rattle.base_rules.specs.Bytes.{number_at}
use Rattle.base_rules.specs.Refusal.{number, told}
use Rattle.base_rules.specs.declared.Refusal.{Refusal}
use Rattle.base_rules.specs.declared.Refusal.TheVariants as refusal
use Rattle.base_rules.specs.Tests.{first}
use Rattle.item_rules.specs.declared.Bytes.{Bytes}
use Rattle.item_rules.specs.declared.Item.{Item}
use Rattle.item_rules.specs.declared.Step.{Step}
use Rattle.item_rules.specs.declared.Step.TheVariants as step
use Rattle.item_rules.specs.Item.{head, bytes_for, item_at, step_in, values_of, values_in, number_of, overrun_in, step_values, step_call}
use Rattle.item_rules.specs.Run.{Run, item, padding, first_of, or_else, first_values, found_number}
use Rattle.item_rules.specs.Run.{refused as run-refused}

-- an answer that is refused with n, unless that is 0, has n as its number, or else the number that is due then
pub else_number : {A : Type 0} (number_in : A → Answer) (here denied : A) (n rest : ℕ) (vs : List ℕ) → number_in here ≡ answered rest vs
    → ((n ≡ 0 → ⊥) → number_in denied ≡ refused n) → number_in (cond (eqb n 0) here denied) ≡ answered (or_else n rest) vs
unfolding answered
else_number number_in here denied zero rest vs e r = e
else_number number_in here denied (suc n) rest vs e r = simp (ne_eqb (suc n) 0 (λ z. omega arith)) (r (λ z. omega arith))

-- by the two tests: whether padding stands there, and whether the item fits
number_by : (pads fits : Bool) (p : Bytes) (i : Item)
    → number_of (cond pads (Ok (step.End p)) (cond fits (Ok (step.Item i)) (Err refusal.Overrun)))
    ≡ answered (first ((not pads && not fits, 30) ∷ [])) (cond pads (p.0 ∷ []) (values_of i))
unfolding number_of told values_in number answered first
number_by true fits p i = refl
number_by false true p i = refl
number_by false false p i = refl

-- the number of a step is that of the packet's fault there
pub step_number : (s : List ℕ) (at end : ℕ) → number_of (step_in s at end) ≡ step_call s at end
unfolding step_in step_call overrun_in step_values
step_number s at end =
    number_by (ltb (end - at) head) (leb (head + bytes_for (number_at 4 s (at + 4))) (end - at)) (record { 0 = end - at }) (item_at s at)

-- so a step that is the defined one has that number
pub step_told : (s : List ℕ) (at end : ℕ) (t : Result Step Refusal) → t ≡ step_in s at end → (t ≡ step_in s at end) × (number_of t ≡ step_call s at end)
step_told s at end t e = (e, ap number_of e ∙ step_number s at end)

-- by the test whether the first item of a run has the name
found_by : (b : Bool) (i : Item) (f : Option Item) (vs : List ℕ) → found_number f ≡ granted vs
    → found_number (cond b (Some i) f) ≡ granted (cond b (values_of i) vs)
unfolding found_number
found_by true i f vs e = refl
found_by false i f vs e = e

-- what a search finds carries the values of the first item of that name
pub found_number_lem : (name : ℕ) (r : Run) → found_number (first_of name r) ≡ granted (first_values name r)
unfolding found_number first_of first_values
found_number_lem name (item i r) = found_by (eqb i.name name) i (first_of name r) (first_values name r) (found_number_lem name r)
found_number_lem name (padding n) = refl
found_number_lem name (run-refused n) = refl

-- so a search that is the defined one carries them
pub found_told : (name : ℕ) (r : Run) (f : Option Item) → f ≡ first_of name r → (f ≡ first_of name r) × (found_number f ≡ granted (first_values name r))
found_told name r f e = (e, ap found_number e ∙ found_number_lem name r)
