use mathlib.Core.Path.{◌≡◌}
use Prim.Native.Nat.{ℕ}
use native.Mathlib.Omega.{arith}
use borrow.Author.Rules.{rules}
use lib.ListN.{length, replicate, length-replicate}
use Rattle.code_rules.proofs.BlockLaws.{later_trans, ready_later, from_done}
use Rattle.code_rules.proofs.ClassLaws.{shared_with}
use Rattle.code_decoder.proofs.class.fill_class.Goals as goal

pub fill_if_same-requires : goal.fill_if_same-requires
fill_if_same-requires c =
    let A = c.args in
    let P = c.requires in
    let I = c.loop-j.invariant in
    let X = c.locators_of-x in
    let size : length X.result ≡ 48 = search rules in
    let shared = shared_with A.from c.missing_count-miss.result A.t.now A.rk.now (replicate 2304 0) _ _ X.result P.ready.0 P.ready.1 P.made.0
    P.made.1 c.missing_count-miss.ensures X.ensures size (length-replicate {A = ℕ} 2304 0) c.pattern-sc.ensures in
    let size = I.1.asize in
    record { ready = (ready_later P.ready.0 I.1, omega (arith, P.ready.1, size), omega (arith, c.loop-j-test.true, size)); shared = shared }

pub loop-j-preserved : goal.loop-j-preserved
loop-j-preserved c =
    let F = c.fill_if_same.ensures in
    let L = c.loop-j in
    let I = L.invariant in
    let from = c.args.from in
    (omega arith, later_trans I.1 F.later, λ _. from_done from L.j F.later I.0 I.2 F.done)
