-- A step of a walk, by what stands where it comes to: once for all that is said of steps. Assumes nothing.
use mathlib.Core.Path.{◌≡◌, refl, sym, subst}
use mathlib.Core.List.{List}
use mathlib.Core.Bool.{Bool, true, false, cond}
use Prim.Native.Nat.{ℕ, zero, suc, ◌≤◌, min}
use native.Mathlib.Omega.{arith}
use lib.Dec.{eqb}
use lib.ListN.{length}
use Rattle.item_rules.specs.declared.Bytes.{Bytes}
use Rattle.std.specs.Prelude.{Result, Ok, Err}
use Rattle.base_rules.specs.Refusal.{number}
use Rattle.base_rules.specs.declared.Refusal.{Refusal}
use Rattle.item_rules.specs.declared.Item.{Item}
use Rattle.item_rules.specs.declared.Step.{Step}
use Rattle.item_rules.specs.declared.Step.TheVariants as step
use Rattle.item_rules.specs.Item.{step_in}
use Rattle.item_rules.specs.Run.{next_of}
use Rattle.item_rules.proofs.Steps.{item_fits}
use Rattle.item_rules.proofs.Runs.{item_begins}
use Rattle.walk_rules.specs.declared.Handed.TheVariants as handed
use Rattle.walk_rules.specs.declared.Walked.{Walked}
use Rattle.walk_rules.specs.declared.Walker.{Walker}
use Rattle.walk_rules.specs.Names.{deepest, names_of}
use Rattle.walk_rules.specs.Step.{goes_on, end_of, step_from, step_fault, walk_step}
use Rattle.walk_rules.proofs.StepCases.{step-item, step_end, step-refused}

-- the end of a packet is within the whole one, and so is an item
module _ (s ends : List ℕ) where
  -- at each depth the packet ends within the whole one
  pub end_within : (d : ℕ) → end_of s ends d ≤ length s
  unfolding end_of
  end_within d = omega arith

  -- an item that is found at any depth ends within the whole packet
  pub item-within : (at d : ℕ) (i : Item) → step_in s at (end_of s ends d) ≡ Ok (step.Item i) → next_of i ≤ length s
  item-within at d i e =
      omega (arith, item_fits s at (end_of s ends d) i e, item_begins s at (end_of s ends d) i e, end_within d)

-- P holds of every step from where Q holds, if it does in each case, and Q holds behind the container whose end is reached
module _ (s cs ends : List ℕ) (P : Walked → Type 0) (Q : ℕ → ℕ → Type 0)
    (item : (at d : ℕ) (i : Item) → Q at d → step_in s at (end_of s ends d) ≡ Ok (step.Item i)
    → P (record { handed = Ok (handed.Item (record { depth = d; item = i })); next = goes_on cs d ends i }))
    (end : (at : ℕ) (p : Bytes) → Q at 0 → step_in s at (end_of s ends 0) ≡ Ok (step.End p)
    → P (record { handed = Ok (handed.End p); next = record { refusal = 0; at = at; depth = 0; ends = ends } }))
    (refused : (at d : ℕ) (n : Refusal) → Q at d → step_in s at (end_of s ends d) ≡ Err n
    → P (record { handed = Err (number n); next = record { refusal = 0; at = at; depth = d; ends = ends } }))
    (above : (at d : ℕ) → Q at (suc d) → Q (end_of s ends (suc d)) d) where
  outer : (at : ℕ) → Q at 0 → (t : Result Step Refusal) → step_in s at (end_of s ends 0) ≡ t → P (step_from s cs at 0 ends)
  outer at q (Ok (step.Item i)) e = subst P (sym (step-item s cs at ends 0 _ i _ refl e refl)) (item at 0 i q e)
  outer at q (Ok (step.End p)) e = subst P (sym (step_end s cs at ends 0 _ p refl e refl)) (end at p q e)
  outer at q (Err n) e = subst P (sym (step-refused s cs at ends 0 _ n refl e)) (refused at 0 n q e)

  up : (at d : ℕ) (p : Bytes) → step_in s at (end_of s ends (suc d)) ≡ Ok (step.End p)
      → step_from s cs at (suc d) ends ≡ step_from s cs (end_of s ends (suc d)) d ends
  unfolding step_from
  up at d p e = simp e

  inner : (at d : ℕ) → Q at (suc d) → (t : Result Step Refusal) → step_in s at (end_of s ends (suc d)) ≡ t → P (step_from s cs (end_of s ends (suc d)) d ends)
      → P (step_from s cs at (suc d) ends)
  inner at d q (Ok (step.Item i)) e behind = subst P (sym (step-item s cs at ends (suc d) _ i _ refl e refl)) (item at (suc d) i q e)
  inner at d q (Ok (step.End p)) e behind = subst P (sym (up at d p e)) behind
  inner at d q (Err n) e behind = subst P (sym (step-refused s cs at ends (suc d) _ n refl e)) (refused at (suc d) n q e)

  -- what holds of each item, end and refusal holds of the step, from any depth
  pub by_steps : (d at : ℕ) → Q at d → P (step_from s cs at d ends)
  by_steps zero at q = outer at q (step_in s at (end_of s ends 0)) refl
  by_steps (suc d) at q = inner at d q (step_in s at (end_of s ends (suc d))) refl (by_steps d (end_of s ends (suc d)) (above at d q))

-- what holds of the step from where a walker stands, and of a refusal that leaves the walker, holds of the walker's step
pub by_walker : (P : Walked → Type 0) (s l : List ℕ) (w : Walker) → P (step_from s (names_of l) w.at (min w.depth deepest) w.ends)
    → ((n : ℕ) → P (record { handed = Err n; next = w }))
    → P (walk_step s l w)
unfolding walk_step
by_walker P s l w on stay = go (eqb (step_fault l w) 0)
  where
    go : (b : Bool) → P (cond b (step_from s (names_of l) w.at (min w.depth deepest) w.ends)
        (record { handed = Err (step_fault l w); next = w }))
    go true = on
    go false = stay (step_fault l w)
