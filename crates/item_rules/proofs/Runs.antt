-- What the run of a packet is, by what stands at its start.
use Prim.Native.Nat.{ℕ, zero, suc, ◌+◌, ◌-◌, ◌≤◌, ◌<◌}
use mathlib.Core.List.{List}
use mathlib.Core.Path.{◌≡◌, refl, sym, ap, subst, ◌∙◌}
use native.Mathlib.Omega.{arith}
use native.Mathlib.Nat.{le_refl}
use borrow.Author.Tests.{eq-eqb, ne_eqb}
use Rattle.std.specs.Prelude.{Result, Ok, Err, Option, Some, None}
use Rattle.base_rules.specs.Refusal.{number}
use Rattle.base_rules.specs.declared.Refusal.{Refusal}
use Rattle.item_rules.specs.declared.Bytes.{Bytes}
use Rattle.item_rules.specs.declared.Item.{Item}
use Rattle.item_rules.specs.declared.Step.{Step}
use Rattle.item_rules.specs.declared.Step.TheVariants as step
use Rattle.item_rules.specs.Item.{head, step_in, item_at}
use Rattle.item_rules.specs.Run.{Run, item, padding, refused, on_step, next_of, run_in, run_of, first_of}
use Rattle.item_rules.proofs.Steps.{item_fits, item_at_lem, end_left, end_few, step_none, refused_is}

-- an item's value begins behind its head, and what is left after it is less
pub item_begins : (s : List ℕ) (at end : ℕ) (i : Item) → step_in s at end ≡ Ok (step.Item i) → i.from ≡ at + head
unfolding item_at
item_begins s at end i e = ap (λ (j : Item). j.from) (item_at_lem s at end i e)

-- fewer bytes are left behind an item than where it begins
pub falls : (s : List ℕ) (at end : ℕ) (i : Item) → step_in s at end ≡ Ok (step.Item i) → end - next_of i < end - at
falls s at end i e = let h = item_fits s at end i e in let b = item_begins s at end i e in omega arith

-- any steps enough give the same run
enough_by : (f g : ℕ) (s : List ℕ) (at end : ℕ) → end - at ≤ suc f → end - at ≤ suc g
    → ((b : ℕ) → end - b ≤ f → end - b ≤ g → run_in f s b end ≡ run_in g s b end) → (t : Result Step Refusal) → step_in s at end ≡ t
    → on_step t (λ i. item i (run_in f s (next_of i) end)) padding (λ x. refused (number x))
    ≡ on_step t (λ i. item i (run_in g s (next_of i) end)) padding (λ x. refused (number x))
enough_by f g s at end hf hg ih (Ok (step.Item i)) e = let l = falls s at end i e in ap (item i) (ih (next_of i) (omega arith) (omega arith))
enough_by f g s at end hf hg ih (Ok (step.End p)) e = refl
enough_by f g s at end hf hg ih (Err n) e = refl

enough : (f g : ℕ) (s : List ℕ) (at end : ℕ) → end - at ≤ f → end - at ≤ g → run_in f s at end ≡ run_in g s at end
unfolding run_in
enough zero zero s at end hf hg = refl
enough zero (suc g) s at end hf hg = simp (step_none s at end hf)
enough (suc f) zero s at end hf hg = simp (step_none s at end hg)
enough (suc f) (suc g) s at end hf hg = enough_by f g s at end hf hg (λ b. enough f g s b end) (step_in s at end) refl

-- the run from an item on is that item and the run after it
opens : (s : List ℕ) (at end : ℕ) → run_of s at end ≡ run_in (suc (end - at)) s at end
unfolding run_of
opens s at end = enough (end - at) (suc (end - at)) s at end (le_refl _) (omega arith)

-- where an item stands, the run is that item and the run behind it
pub run-item : (s : List ℕ) (at end : ℕ) (i : Item) → step_in s at end ≡ Ok (step.Item i) → run_of s at end ≡ item i (run_of s (next_of i) end)
unfolding run_in run_of
run-item s at end i e =
    opens s at end
    ∙ simp e (let l = falls s at end i e in ap (item i) (enough (end - at) (end - next_of i) s (next_of i) end (omega arith) (le_refl _)))

-- where padding stands, the run is that padding
pub run_end : (s : List ℕ) (at end : ℕ) (p : Bytes) → step_in s at end ≡ Ok (step.End p) → run_of s at end ≡ padding p.0
unfolding run_in
run_end s at end p e = opens s at end ∙ simp e

-- where an item is refused, the run is that refusal
pub run-refused : (s : List ℕ) (at end : ℕ) (n : Refusal) → step_in s at end ≡ Err n → run_of s at end ≡ refused (number n)
unfolding run_in
run-refused s at end n e = opens s at end ∙ simp e

-- an item of the packet that ends before `end`
pub record Stands (s : List ℕ) (end : ℕ) (i : Item) : Type 0 where
  pub at : ℕ
  pub here : step_in s at end ≡ Ok (step.Item i)

-- what holds wherever padding of 7 or fewer bytes stands, all that is left, or an item that passes the end, and at an item where it holds behind it,
module _ (s : List ℕ) (end : ℕ) (P : ℕ → Run → Type 0)
    (more : (at : ℕ) (i : Item) → step_in s at end ≡ Ok (step.Item i) → P (next_of i) (run_of s (next_of i) end) → P at (item i (run_of s (next_of i) end)))
    (ends : (at p : ℕ) → p < head → p ≡ end - at → P at (padding p)) (overrun : (at : ℕ) → P at (refused 30)) where
  step_by : (at : ℕ) → ((b : ℕ) → end - b < end - at → P b (run_of s b end)) → (t : Result Step Refusal) → step_in s at end ≡ t → P at (run_of s at end)
  unfolding number
  step_by at behind (Ok (step.Item i)) e = subst (P at) (sym (run-item s at end i e)) (more at i e (behind (next_of i) (falls s at end i e)))
  step_by at behind (Ok (step.End p)) e = subst (P at) (sym (run_end s at end p e)) (ends at p.0 (end_few s at end p e) (end_left s at end p e))
  step_by at behind (Err n) e =
      subst (P at) (sym (run-refused s at end n e ∙ ap (λ (x : Refusal). refused (number x)) (refused_is s at end n e))) (overrun at)

  in_steps : (f at : ℕ) → end - at ≤ f → P at (run_of s at end)
  in_steps zero at h = step_by at (λ b l. absurd (omega arith)) (step_in s at end) refl
  in_steps (suc f) at h = step_by at (λ b l. in_steps f b (omega arith)) (step_in s at end) refl

  -- holds of the run of the packet from every place on
  pub every-run : (at : ℕ) → P at (run_of s at end)
  every-run at = in_steps (end - at) at (le_refl _)

-- the search for a name, by what stands at the start
module _ (s : List ℕ) (name at end : ℕ) where
  -- an item of the name looked for is what the search finds
  pub first_here : (i : Item) → step_in s at end ≡ Ok (step.Item i) → i.name ≡ name → first_of name (run_of s at end) ≡ Some i
  unfolding first_of
  first_here i e q = rw (run-item s at end i e) (simp (eq-eqb _ _ q))

  -- past an item of another name the search goes on behind it
  pub first_next : (i : Item) → step_in s at end ≡ Ok (step.Item i) → (i.name ≡ name → ⊥)
      → first_of name (run_of s at end) ≡ first_of name (run_of s (next_of i) end)
  unfolding first_of
  first_next i e q = rw (run-item s at end i e) (simp (ne_eqb _ _ q))

  -- where padding stands, the search finds nothing
  pub first_end : (p : Bytes) → step_in s at end ≡ Ok (step.End p) → first_of name (run_of s at end) ≡ None
  unfolding first_of
  first_end p e = rw (run_end s at end p e) refl

  -- where an item is refused, the search finds nothing
  pub first-refused : (n : Refusal) → step_in s at end ≡ Err n → first_of name (run_of s at end) ≡ None
  unfolding first_of
  first-refused n e = rw (run-refused s at end n e) refl
