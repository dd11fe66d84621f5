-- `mark_lost` meets its contract: what cannot be leaves the mask as it was. Assumes nothing.
use mathlib.Core.Path.{◌≡◌, sym, ◌∙◌}
use Prim.Native.Nat.{◌<◌, ◌≤◌}
use borrow.Author.Rules.{rules}
use lib.ListN.{length}
use Rattle.code_rules.proofs.LostLaws.{lost_none, lost_many, lost_short, lost_some}
use Rattle.code_solver.proofs.cells.mark_lost.Goals as goal

pub returns-then-f-eq0 : goal.returns-then-f-eq0
returns-then-f-eq0 c =
    let A = c.args in
    let z : A.f ≡ 0 = search rules in
    sym (lost_none A.kept A.f A.n A.mask.now z)

pub returns-then-f-gt-MOST_F : goal.returns-then-f-gt-MOST_F
returns-then-f-gt-MOST_F c =
    let A = c.args in
    let z : A.f ≡ 0 → ⊥ = search rules in
    let h : 256 < A.f = search rules in
    sym (lost_many A.kept A.f A.n A.mask.now z h)

pub returns-then-mask-n : goal.returns-then-mask-n
returns-then-mask-n c =
    let A = c.args in
    let z : A.f ≡ 0 → ⊥ = search rules in
    let h : A.f ≤ 256 = search rules in
    let l : length A.mask.now < A.n = search rules in
    sym (lost_short A.kept A.f A.n A.mask.now z h l)

pub returns : goal.returns
returns c =
    let A = c.args in
    let z : A.f ≡ 0 → ⊥ = search rules in
    let h : A.f ≤ 256 = search rules in
    let l : A.n ≤ length A.mask.now = search rules in
    c.mark_cells.ensures ∙ sym (lost_some A.kept A.f A.n A.mask.now z h l)
