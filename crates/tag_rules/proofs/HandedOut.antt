-- What a reader hands out in n steps. Assumes nothing.
use Prim.Native.Nat.{ℕ, zero, suc, ◌≤◌}
use mathlib.Core.List.{List, ◌∷◌, ◌++◌}
use mathlib.Core.Path.{◌≡◌, refl, sym, ap, ◌∙◌}
use native.Mathlib.Nat.{not-suc-le-zero, le_of_suc-le-suc, le_refl}
use native.Mathlib.Omega.{arith}
use lib.ListN.{length, take, replicate}
use Rattle.std.specs.Prelude.{Result, Ok, Err}
use Rattle.base_rules.specs.Refusal.{number, numbered}
use Rattle.base_rules.specs.declared.Refusal.{Refusal}
use Rattle.item_rules.specs.declared.Step.{Step}
use Rattle.item_rules.specs.declared.Step.TheVariants as step
use Rattle.item_rules.specs.Item.{step_in}
use Rattle.item_rules.specs.Run.{next_of, run_of}
use Rattle.item_rules.proofs.Runs.{run-item, run_end, run-refused}
use Rattle.tag_rules.specs.Calls.{read_of, after_of}
use Rattle.tag_rules.specs.Reading.{handed, stands_after, items_of, last_of}
use Rattle.tag_rules.proofs.Reading.{after_is}

-- a step that does not move the reader is its last: it stays,
module _ (s : List ℕ) (at refusal : ℕ) (stuck : after_of s at refusal ≡ at) where
  -- after any number of steps it stands where it stood
  pub stays : (n : ℕ) → stands_after n s at refusal ≡ at
  unfolding stands_after
  stays zero = refl
  stays (suc n) = rw stuck (stays n)

  -- and answers the same for ever
  pub repeats : (n m : ℕ) → n ≤ m → handed n s at refusal ≡ take n (replicate m (read_of s at refusal))
  unfolding handed
  repeats zero m h = refl
  repeats (suc n) zero h = absurd (not-suc-le-zero h)
  repeats (suc n) (suc m) h = rw stuck (ap (λ (r : List (Result Step ℕ)). read_of s at refusal ∷ r) (repeats n m (le_of_suc-le-suc h)))

-- a reader that is not refused hands out the run from where it stands
module _ (s : List ℕ) where
  abbrev Hands : ℕ → ℕ → ℕ → Type 0
  Hands n m at = handed n s at 0 ≡ take n (items_of (run_of s at (length s)) ++ replicate m (last_of (run_of s at (length s))))

  ends : (n m at : ℕ) → n ≤ m → (t : Result Step ℕ) → numbered (step_in s at (length s)) ≡ t → after_of s at 0 ≡ at → handed n s at 0 ≡ take n (replicate m t)
  unfolding read_of
  ends n m at h t e stuck = repeats s at 0 stuck n m h ∙ ap (λ (u : Result Step ℕ). take n (replicate m u)) e

  step_by : (n m at : ℕ) → n ≤ m → ((b : ℕ) → Hands n (suc m) b) → (t : Result Step Refusal) → step_in s at (length s) ≡ t → Hands (suc n) (suc m) at
  unfolding handed items_of last_of read_of
  step_by n m at h later (Ok (step.Item i)) e =
      rw (run-item s at (length s) i e, e, ← after_is s at 0 (Ok (step.Item i)) (ap numbered e)) (ap (λ (r : List (Result Step ℕ)). Ok (step.Item i) ∷ r) (later (next_of i)))
  step_by n m at h later (Ok (step.End p)) e =
      rw (run_end s at (length s) p e)
      (ends (suc n) (suc m) at (omega arith) (Ok (step.End p)) (ap numbered e) (sym (after_is s at 0 (Ok (step.End p)) (ap numbered e))))
  step_by n m at h later (Err r) e =
      rw (run-refused s at (length s) r e)
      (ends (suc n) (suc m) at (omega arith) (Err (number r)) (ap numbered e) (sym (after_is s at 0 (Err (number r)) (ap numbered e))))

  hands : (n m at : ℕ) → n ≤ m → Hands n m at
  unfolding handed
  hands zero m at h = refl
  hands (suc n) zero at h = absurd (not-suc-le-zero h)
  hands (suc n) (suc m) at h = step_by n m at (le_of_suc-le-suc h) (λ b. hands n (suc m) b (omega arith)) (step_in s at (length s)) refl

  -- its first n steps are the items from there on, and then END or the refusal again and again
  pub hands_run : (n at : ℕ) → Hands n n at
  hands_run n at = hands n n at (le_refl n)
