-- A part of the bytes read as a packet of its own: the same steps and the same run, with each place moved. Assumes nothing.
use Prim.Native.Nat.{ℕ, zero, suc, ◌+◌, ◌-◌, ◌≤◌}
use mathlib.Core.List.{List}
use mathlib.Core.Path.{◌≡◌, refl, sym, ap, ◌∙◌}
use mathlib.Core.Bool.{Bool, true, false, cond}
use native.Mathlib.Omega.{arith}
use native.Mathlib.Nat.{le_refl}
use lib.Dec.{ltb, leb}
use lib.ListN.{length, take, drop, get_or, length-drop}
use lib.Seq.{get_or-take, get_or-drop, length-take-le}
use borrow.Author.Tests.{ltb-false}
use Rattle.base_rules.specs.Bytes.{number_at}
use Rattle.base_rules.proofs.Logic.{either}
use Rattle.std.specs.Prelude.{Result, Ok, Err}
use Rattle.base_rules.specs.Refusal.{number}
use Rattle.base_rules.specs.declared.Refusal.{Refusal}
use Rattle.base_rules.specs.declared.Refusal.TheVariants as refusal
use Rattle.item_rules.specs.declared.Item.{Item}
use Rattle.item_rules.specs.declared.Step.{Step}
use Rattle.item_rules.specs.declared.Step.TheVariants as step
use Rattle.item_rules.specs.Item.{head, bytes_for, unused_of, item_at, step_in}
use Rattle.item_rules.specs.Run.{item, padding, refused, next_of, on_step, run_in, run_of}
use Rattle.walk_rules.specs.Claims.{moved_item, moved_run, ValueAsPacket}

-- an item by what is read of it, where its value begins and where it starts
abbrev item_of : ℕ → ℕ → ℕ → ℕ → Item
item_of name bits from start = record {
  name = name;
  bits = record { 0 = bits };
  from = from;
  len = record { 0 = bytes_for bits };
  start = start;
  unused = record { 0 = unused_of bits };
}

-- a step by what it reads: the bytes left, the name, the bits, and these two places
step_of : ℕ → ℕ → ℕ → ℕ → ℕ → Result Step Refusal
step_of left name bits from start =
    cond (ltb left head) (Ok (step.End (record { 0 = left })))
    (cond (leb (head + bytes_for bits) left) (Ok (step.Item (item_of name bits from start))) (Err refusal.Overrun))

step_is : (s : List ℕ) (at b : ℕ) → step_in s at b ≡ step_of (b - at) (number_at 4 s at) (number_at 4 s (at + 4)) (at + head) at
unfolding step_in item_at step_of
step_is s at b = refl

-- name and bits count only where a head is left
step_read : (left name name' bits bits' from start : ℕ) → (head ≤ left → name ≡ name') → (head ≤ left → bits ≡ bits')
    → step_of left name bits from start ≡ step_of left name' bits' from start
unfolding step_of
step_read left name name' bits bits' from start p q =
    either (ltb left head) (λ e. simp e)
    (λ e. let h = ltb-false left head e in ap (λ (x : ℕ). step_of left x bits from start) (p h) ∙ ap (λ (x : ℕ). step_of left name' x from start) (q h))

-- a step with an item k bytes further on
moved_step : ℕ → Result Step Refusal → Result Step Refusal
moved_step k (Ok (step.Item i)) = Ok (step.Item (moved_item k i))
moved_step k (Ok (step.End p)) = Ok (step.End p)
moved_step k (Err m) = Err m

step_from_lem : (k left name bits from start : ℕ) → moved_step k (step_of left name bits from start) ≡ step_of left name bits (k + from) (k + start)
unfolding moved_step step_of
step_from_lem k left name bits from start = go (ltb left head) (leb (head + bytes_for bits) left)
  where
    i : Item
    i = item_of name bits from start

    go : (x y : Bool) → moved_step k (cond x (Ok (step.End (record { 0 = left }))) (cond y (Ok (step.Item i)) (Err refusal.Overrun)))
        ≡ cond x (Ok (step.End (record { 0 = left }))) (cond y (Ok (step.Item (moved_item k i))) (Err refusal.Overrun))
    go true y = refl
    go false true = refl
    go false false = refl

-- the n bytes of s from k on
module _ (s : List ℕ) (k n : ℕ) where
  abbrev pub part : List ℕ
  part = take n (drop k s)

  -- a number in the part is the one that stands k bytes further on in s
  number_moved : (w at : ℕ) → at + w ≤ n → number_at w part at ≡ number_at w s (k + at)
  unfolding number_at
  number_moved zero at h = refl
  number_moved (suc w) at h =
      let e : k + (at + w) ≡ k + at + w = omega arith in
      let byte : get_or part (at + w) 0 ≡ get_or s (k + at + w) 0 =
      get_or-take n (drop k s) (at + w) 0 (omega arith) ∙ get_or-drop k s (at + w) 0 ∙ ap (λ (j : ℕ). get_or s j 0) e in
      cc (number_moved w at (omega arith), byte)

  -- a step in the part is the one k bytes further on in s
  step_moved : (at b : ℕ) → b ≤ n → step_in s (k + at) (k + b) ≡ moved_step k (step_in part at b)
  step_moved at b h =
      let left : k + b - (k + at) ≡ b - at = omega arith in
      let from : k + at + head ≡ k + (at + head) = omega arith in
      let second : k + (at + 4) ≡ k + at + 4 = omega arith in
      step_is s (k + at) (k + b)
      ∙ ap (λ (x : ℕ). step_of x (number_at 4 s (k + at)) (number_at 4 s (k + at + 4)) (k + at + head) (k + at)) left
      ∙ ap (λ (x : ℕ). step_of (b - at) (number_at 4 s (k + at)) (number_at 4 s (k + at + 4)) x (k + at)) from
      ∙ step_read (b - at) _ _ _ _ (k + (at + head)) (k + at)
      (λ l. sym (number_moved 4 at (omega arith)))
      (λ l. sym (number_moved 4 (at + 4) (omega arith) ∙ ap (number_at 4 s) second))
      ∙ sym (step_from_lem k (b - at) (number_at 4 part at) (number_at 4 part (at + 4)) (at + head) at)
      ∙ ap (moved_step k) (sym (step_is part at b))

  -- so is a run
  run_in_moved : (m at b : ℕ) → b ≤ n → run_in m s (k + at) (k + b) ≡ moved_run k (run_in m part at b)
  unfolding run_in moved_run moved_step
  run_in_moved zero at b h = refl
  run_in_moved (suc m) at b h =
      ap (λ (t : Result Step Refusal). on_step t (λ i. item i (run_in m s (next_of i) (k + b))) padding (λ x. refused (number x))) (step_moved at b h)
      ∙ go (λ j. run_in_moved m j b h) (step_in part at b)
    where
      go : ((j : ℕ) → run_in m s (k + j) (k + b) ≡ moved_run k (run_in m part j b)) → (t : Result Step Refusal)
          → on_step (moved_step k t) (λ i. item i (run_in m s (next_of i) (k + b))) padding (λ x. refused (number x))
          ≡ moved_run k (on_step t (λ i. item i (run_in m part (next_of i) b)) padding (λ x. refused (number x)))
      go behind (Ok (step.Item i)) =
          let next : k + i.from + i.len.0 ≡ k + next_of i = omega arith in
          ap (item (moved_item k i)) (ap (λ (x : ℕ). run_in m s x (k + b)) next ∙ behind (next_of i))
      go behind (Ok (step.End p)) = refl
      go behind (Err e) = refl

  -- the run of the bytes from a to b of the part is the one k bytes further on in s, with each place moved
  pub run_moved : (at b : ℕ) → b ≤ n → run_of s (k + at) (k + b) ≡ moved_run k (run_of part at b)
  unfolding run_of
  run_moved at b h =
      let left : k + b - (k + at) ≡ b - at = omega arith in
      ap (λ (m : ℕ). run_in m s (k + at) (k + b)) left ∙ run_in_moved (b - at) at b h

-- the run inside an item is that of its value by itself, with each place moved
pub value_as_packet : ValueAsPacket
value_as_packet s i h =
    let v : List ℕ = part s i.from i.len.0 in
    let sized : length v ≡ i.len.0 = length-take-le i.len.0 (drop i.from s) (omega (arith, length-drop i.from s)) in
    let start : i.from + 0 ≡ i.from = omega arith in
    ap (λ (x : ℕ). run_of s x (next_of i)) (sym start)
    ∙ run_moved s i.from i.len.0 0 i.len.0 (le_refl i.len.0)
    ∙ ap (λ (x : ℕ). moved_run i.from (run_of v 0 x)) (sym sized)
