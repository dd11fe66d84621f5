-- `fill_lost` meets its contract. Assumes nothing.
use mathlib.Core.Path.{◌≡◌, sym, ap, ◌∙◌}
use Prim.Native.Nat.{ℕ, ◌+◌, ◌*◌, ◌≤◌}
use native.Mathlib.Omega.{arith}
use borrow.Author.Rules.{rules}
use lib.ListN.{length, take, replicate}
use lib.Seq.{length-take-le}
use Rattle.code_rules.specs.Calls.{lost_cells}
use Rattle.code_rules.proofs.CellLaws.{ready_by, tried_by}
use Rattle.code_rules.proofs.LostLaws.{lost_front}
use Rattle.code_decoder.proofs.block.fill_lost.Goals as goal

pub slice_bounds-fill_block-end : goal.slice_bounds-fill_block-end
slice_bounds-fill_block-end c =
    let A = c.args in
    let m = c.mark_lost.new.mask in
    let long : A.c * (A.k + 48) ≤ length m = search rules in
    sym (length-take-le (A.c * (A.k + 48)) m long)

pub fill_block-requires : goal.fill_block-requires
fill_block-requires c =
    let A = c.args in
    let all : ℕ = A.c * (A.k + 48) in
    let M = c.mark_lost in
    let cells = lost_cells A.kept A.f 0 all in
    let P = c.requires in
    let masks : take all M.new.mask ≡ cells =
    ap (take all) M.ensures ∙ lost_front A.kept A.f all (replicate 12288 0) P.some P.most (omega (arith, P.within)) in
    (ready_by A.kept A.f A.k A.c _ masks A.block.now P, P.some)

pub returns : goal.returns
returns c =
    let A = c.args in
    let all : ℕ = A.c * (A.k + 48) in
    let M = c.mark_lost in
    let cells = lost_cells A.kept A.f 0 all in
    let P = c.requires in
    let masks : take all M.new.mask ≡ cells =
    ap (take all) M.ensures ∙ lost_front A.kept A.f all (replicate 12288 0) P.some P.most (omega (arith, P.within)) in
    let F = c.fill_block in
    let new = F.new.block in
    tried_by A.kept A.f A.k A.c _ masks A.block.now new F.result F.ensures
