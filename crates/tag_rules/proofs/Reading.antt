-- What a reader hands out, by what stands where it is. Assumes nothing.
use Prim.Native.Nat.{ℕ, ◌≤◌}
use mathlib.Core.List.{List}
use mathlib.Core.Bool.{Bool, true, false, cond}
use mathlib.Core.Path.{◌≡◌, sym, ap}
use native.Mathlib.Omega.{arith}
use lib.Dec.{eqb}
use lib.ListN.{length}
use borrow.Author.Tests.{ne_eqb}
use Rattle.std.specs.Prelude.{Result, Ok, Err}
use Rattle.base_rules.specs.Refusal.{numbered}
use Rattle.base_rules.specs.declared.Refusal.{Refusal}
use Rattle.item_rules.specs.declared.Item.{Item}
use Rattle.item_rules.specs.declared.Step.{Step}
use Rattle.item_rules.specs.declared.Step.TheVariants as step
use Rattle.item_rules.specs.Item.{step_in}
use Rattle.item_rules.specs.Run.{next_of, on_step}
use Rattle.item_rules.proofs.Steps.{item_fits, zero_one}
use Rattle.item_rules.proofs.Runs.{item_begins}
use Rattle.tag_rules.specs.Calls.{read_of, after_of}

-- an item is handed out only where the packet is not refused,
stands_by : (b : Bool) (here : Result Step Refusal) (refusal : ℕ) (i : Item) → cond b (numbered here) (Err refusal) ≡ Ok (step.Item i)
    → here ≡ Ok (step.Item i)
stands_by true (Ok t) refusal i e = cc
stands_by true (Err r) refusal i e = absurd (zero_one (cc))
stands_by false here refusal i e = absurd (zero_one (cc))

-- an item that is handed out is the one that stands where the reader is
pub handed_stands : (s : List ℕ) (at refusal : ℕ) (i : Item) → read_of s at refusal ≡ Ok (step.Item i) → step_in s at (length s) ≡ Ok (step.Item i)
unfolding read_of
handed_stands s at refusal i e = stands_by (eqb refusal 0) (step_in s at (length s)) refusal i e

-- and lies in it
pub handed_fits : (s : List ℕ) (at refusal : ℕ) (i : Item) → read_of s at refusal ≡ Ok (step.Item i) → next_of i ≤ length s
handed_fits s at refusal i e =
    let here = handed_stands s at refusal i e in
    omega (arith, item_begins _ _ _ _ here, item_fits _ _ _ _ here)

-- where the reader stands then
pub after_is : (s : List ℕ) (at refusal : ℕ) (t : Result Step ℕ) → read_of s at refusal ≡ t → on_step t next_of (λ p. at) (λ n. at) ≡ after_of s at refusal
unfolding after_of
after_is s at refusal t e = sym (ap (λ (u : Result Step ℕ). on_step u next_of (λ p. at) (λ n. at)) e)

-- a refused reader answers its refusal, and stays
pub refused_reads : (s : List ℕ) (at refusal : ℕ) → (refusal ≡ 0 → ⊥) → read_of s at refusal ≡ Err refusal
unfolding read_of
refused_reads s at refusal h = simp (ne_eqb refusal 0 h)

-- a refused reader stays where it is
pub refused_after : (s : List ℕ) (at refusal : ℕ) → (refusal ≡ 0 → ⊥) → after_of s at refusal ≡ at
refused_after s at refusal h = sym (after_is s at refusal (Err refusal) (refused_reads s at refusal h))
