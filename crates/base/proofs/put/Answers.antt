-- `put` meets its contract: what the copy leaves in the part lent to it is s spliced in. Assumes nothing.
use mathlib.Core.Path.{◌≡◌, ◌∙◌}
use mathlib.Core.List.{List, [], ◌++◌, append-nil}
use Prim.Native.Nat.{ℕ, ◌+◌, ◌-◌}
use native.Mathlib.Nat.{add-sub_cancel_left, min-le_left}
use native.Mathlib.Omega.{arith}
use lib.ListN.{length, take, drop, length-take, drop_of_length-le}
use lib.Seq.{take-length}
use Rattle.base_rules.proofs.Answers.{put_refused, put_done}
use Rattle.base_rules.proofs.Splice.{splice-lent}
use Rattle.base.proofs.put.Goals as goal

-- all of s is what stands in the part, and nothing of the part is left behind it
all : (d s : List ℕ) (at : ℕ) → s ≡ take (length s) s ++ drop (length s) (take (at + length s - at) (drop at d))
all d s at =
    let z : drop (length s) (take (length s) (drop at d)) ≡ [] =
    drop_of_length-le (take (length s) (drop at d)) {i = length s} (rw length-take (min-le_left (length s) (length (drop at d)))) in
    simp (add-sub_cancel_left, take-length, z, append-nil)

pub returns-then-d-at : goal.returns-then-d-at
returns-then-d-at c =
    let a = c.args in
    put_refused a.d.now a.s.now a.at (omega arith)

pub returns : goal.returns
returns c =
    let a = c.args in
    put_done a.d.now a.s.now a.at _ (omega arith)
    (splice-lent a.d.now a.s.now _ a.at (c.copy_from_slice.ensures.after ∙ all a.d.now a.s.now a.at))
