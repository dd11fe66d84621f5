use mathlib.Core.Path.{◌≡◌, subst}
use native.Mathlib.Omega.{arith}
use lib.ListN.{length}
use Rattle.code_rules.specs.inner.Block.{AllDone}
use Rattle.code_rules.proofs.BlockLaws.{later_refl, later_trans, ready_later, done_start, done_more}
use Rattle.code_decoder.proofs.block.fill_classes.Goals as goal

pub loop-i-init : goal.loop-i-init
loop-i-init c =
    let A = c.args in
    (later_refl A.k A.mask.now A.block.now A.ans.now, done_start A.ans.now)

pub fill_class-requires : goal.fill_class-requires
fill_class-requires c =
    let I = c.loop-i.invariant in
    let P = c.requires in
    record {
      ready = (ready_later P.0 I.0, omega (arith, c.loop-i-test.true, I.0.asize), P.1);
      made = (c.make_table.ensures, c.make_roots-rk.ensures);
    }

pub loop-i-preserved : goal.loop-i-preserved
loop-i-preserved c =
    let F = c.fill_class.ensures in
    let L = c.loop-i in
    (later_trans L.invariant.0 F.later, done_more L.i F.later L.invariant.1 F.done)

pub returns : goal.returns
returns c =
    let L = c.loop-i in
    let I = L.invariant in
    let all : L.i ≡ length L.ans = omega (arith, c.loop-i-test.false, I.0.asize) in
    record { later = I.0; done = subst (AllDone L.ans) all I.1; told = c.all_found.ensures }
