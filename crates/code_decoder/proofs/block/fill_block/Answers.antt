-- `fill_block` meets its contract. Assumes nothing.
use mathlib.Core.Path.{sym, subst}
use Prim.Native.Nat.{◌≤◌}
use native.Mathlib.Omega.{arith}
use lib.ListN.{replicate}
use lib.Seq.{length-take-le}
use Rattle.code_rules.specs.inner.Block.{FoundTest}
use Rattle.code_rules.proofs.BlockLaws.{ready_open, block_found, block_failed}
use Rattle.code_decoder.proofs.block.fill_block.Goals as goal

pub slice_bounds-fill_classes-end : goal.slice_bounds-fill_classes-end
slice_bounds-fill_classes-end c =
    let S = c in
    let few : S.args.c ≤ 256 = omega (arith, S.requires.0.some) in
    sym (length-take-le S.args.c (replicate 256 3) few)

pub fill_classes-requires : goal.fill_classes-requires
fill_classes-requires c =
    let E = c in
    let P = E.requires in
    (ready_open P.0 E.clear.ensures, P.1)

pub returns-then-fill_classes : goal.returns-then-fill_classes
returns-then-fill_classes c =
    let F = c.fill_classes in
    let found = subst (FoundTest F.new.ans) c.if-fill_classes.true F.ensures.told in
    let E = c in
    block_found _ _ _ _ _ _ _ E.requires.0 E.clear.ensures F.ensures.later found

pub returns : goal.returns
returns c =
    let E = c in
    let F = E.fill_classes in
    let left = subst (FoundTest F.new.ans) c.if-fill_classes.false F.ensures.told in
    let B = E in
    let P = B.requires in
    block_failed _ _ _ _ _ _ _ P.0 B.clear.ensures F.ensures.later _ F.ensures.done left c.clear-2.ensures
