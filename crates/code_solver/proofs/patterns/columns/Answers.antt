use mathlib.Core.Path.{◌≡◌}
use Prim.Native.Nat.{◌<◌}
use native.Mathlib.Omega.{arith}
use borrow.Author.Rules.{rules}
use lib.ListN.{length}
use Rattle.code_rules.proofs.LaneLaws.{horner_none}
use Rattle.code_rules.proofs.PatternLaws.{columns_start, row_next, columns_more}
use Rattle.code_solver.proofs.patterns.columns.Goals as goal

pub loop-m-init : goal.loop-m-init
loop-m-init c =
    let A = c.args in
    (horner_none A.k.now A.p, columns_start A.k.now A.p A.q.now)

pub loop-m-preserved : goal.loop-m-preserved
loop-m-preserved c =
    let A = c.args in
    let P = c.requires in
    let L = c.loop-m in
    let I = L.invariant in
    let long : length A.p ≡ 49 = search rules in
    let h : L.m < length A.p = omega arith in
    let s = c.lanes-quotient in
    let E = row_next A.k.now A.p L.s s.result L.m P.1 P.2 h I.0 s.ensures in
    let d = c.lanes-value in
    (E, columns_more A.k.now A.p A.q.now L.q L.d s.result c.put_row48.new.q d.result L.m P.1 P.2 h I.1 E c.put_row48.ensures d.ensures)
