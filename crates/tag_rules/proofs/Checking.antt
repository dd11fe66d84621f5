-- What the loop of a check keeps, and what it has found where it stops. Assumes nothing.
use Prim.Native.Nat.{ℕ, ◌%◌}
use mathlib.Core.List.{List, [], ◌∷◌}
use mathlib.Core.Path.{◌≡◌, refl, sym, ap, ◌∙◌}
use mathlib.Core.Bool.{Bool, true, false, not, ◌&&◌}
use lib.Dec.{eqb}
use lib.ListN.{length, get_or, set}
use Rattle.std.specs.Prelude.{Result, Ok, Err}
use Rattle.base_rules.specs.Refusal.{number, refusal_of, told, fault_in}
use Rattle.base_rules.specs.declared.Refusal.{Refusal}
use Rattle.std.specs.Result.{result_and}
use Rattle.base_rules.specs.Answer.{answered}
use Rattle.base_rules.proofs.Answers.{refuses, number-positive}
use Rattle.tag_rules.specs.Calls.{opened_number}
use Rattle.base_rules.proofs.ByFault.{named, all_named, first_named}
use Rattle.base_rules.proofs.Refusals.{else_named, named_is}
use Rattle.item_rules.specs.declared.Bytes.{Bytes}
use Rattle.item_rules.specs.declared.Item.{Item}
use Rattle.item_rules.specs.declared.Repeats.{Repeats}
use Rattle.item_rules.specs.declared.Step.TheVariants as step
use Rattle.item_rules.specs.Item.{step_in}
use Rattle.item_rules.specs.Run.{Run, dmy, bad_ptr, next_of, first_of, fault_of, forbids, faults_of, is_before, slots}
use Rattle.item_rules.proofs.Runs.{run_end, run-refused, every-run}
use Rattle.item_rules.proofs.Repeated.{counts}
use Rattle.item_rules.proofs.Seen.{Seen, ByItem, again, turn, stops}
use Rattle.tag_rules.specs.Find.{whole_run, check_of}

-- an item's own part of a check
abbrev fault_by : Repeats → Bool → Item → ℕ
fault_by w before i = fault_of (forbids w && before) i

by_item : (w : Repeats) → ByItem (faults_of w) (fault_by w)
unfolding faults_of
by_item w seen i r = refl

module _ (w : Repeats) (s : List ℕ) (marks : List Bool) (at : ℕ) (v : Seen (faults_of w) s 0 (length s) marks at) where
  -- the items end here, and none was at fault: the check says 0
  pub check_ends : (p : Bytes) → step_in s at (length s) ≡ Ok (step.End p) → 0 ≡ check_of w s
  unfolding check_of faults_of
  check_ends p e = sym (v.rest ∙ ap (faults_of w v.names) (run_end s at (length s) p e))

  -- an item that passes the end stands here, and none before it was at fault: the check says that number
  pub check_refused : (e : Refusal) → step_in s at (length s) ≡ Err e → number e ≡ check_of w s
  unfolding check_of faults_of
  check_refused n e = sym (v.rest ∙ ap (faults_of w v.names) (run-refused s at (length s) n e))

  -- m is the mark of the item's slot h, as it counts by the caller's word
  module _ (i : Item) (e : step_in s at (length s) ≡ Ok (step.Item i)) (h n : ℕ) (m : Bool) (p : h ≡ i.name % slots) (o : m ≡ (forbids w && get_or marks h false))
      (q : n ≡ fault_of (m && is_before (first_of i.name (whole_run s)) i.from) i) where
    part : n ≡ fault_by w (again s 0 (length s) marks h i) i
    part = q ∙ ap (λ (b : Bool). fault_of b i) (counts w (get_or marks h false) _ m o)

    -- the item here is not at fault: its slot is marked, and the loop goes on behind it
    pub check_turn : n ≡ 0 → Seen (faults_of w) s 0 (length s) (set marks h true) (next_of i)
    check_turn z = turn (faults_of w) (fault_by w) (by_item w) s 0 (length s) marks at i v e h n p part z

    -- the item here is at fault: the check says its number
    pub check_stops : (n ≡ 0 → ⊥) → n ≡ check_of w s
    unfolding check_of
    check_stops z = stops (faults_of w) (fault_by w) (by_item w) s 0 (length s) marks at i v e h n p part z

-- ---- the numbers of a check stand for refusals

-- an item's own fault does,
fault_named : (before : Bool) (i : Item) → named (fault_of before i) ≡ true
unfolding fault_of all_named named number refusal_of
fault_named before i = first_named ((not (eqb i.name dmy) && before, 31) ∷ (bad_ptr i.name i.bits.0, 33) ∷ []) refl

-- so does 0, and 30 of an item that passes the end,
none_named : named 0 ≡ true
unfolding named
none_named = refl

overrun_named : named 30 ≡ true
unfolding named number refusal_of
overrun_named = refl

-- so does that of a whole packet,
pub check_named : (w : Repeats) (s : List ℕ) → named (check_of w s) ≡ true
unfolding check_of faults_of
check_named w s =
    every-run s (length s) (λ (at : ℕ) (r : Run). (seen : List ℕ) → named (faults_of w seen r) ≡ true)
    (λ at i e behind seen. else_named _ _ (fault_named _ i) (behind (i.name ∷ seen))) (λ at p few left seen. none_named) (λ at seen. overrun_named) 0 []

-- so a packet at fault is refused with that number
pub check_due : (w : Repeats) (s : List ℕ) → (check_of w s ≡ 0 → ⊥) → number (refusal_of (check_of w s)) ≡ check_of w s
check_due w s h = named_is (check_of w s) (check_named w s) h

-- ---- an opening

-- it is told with the number of the check that it makes, and where there is none with 0, at which a reader begins
pub opens_by : (r : Result (Unit {0}) Refusal) → opened_number (result_and r (Ok 0)) ≡ answered (fault_in r) (0 ∷ [])
unfolding opened_number told fault_in answered
opens_by (Ok u) = refl
opens_by (Err e) = refuses (number e) (number e) (0 ∷ []) (number-positive e) refl
