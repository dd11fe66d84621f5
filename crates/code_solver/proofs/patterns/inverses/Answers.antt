use native.Mathlib.Omega.{arith}
use Rattle.code_rules.proofs.SolveLaws.{power_start, power_more, power_end}
use Rattle.code_solver.proofs.patterns.inverses.Goals as goal

pub loop-init : goal.loop-init
loop-init c = λ x e. power_start x c.times_lanes-s.result e

pub loop-preserved : goal.loop-preserved
loop-preserved c =
    let L = c.loop in
    let S = c.times_lanes-square in
    let P = c.times_lanes-longer in
    λ x e. power_more x L.s L.p S.result P.result L.counter (L.invariant x e).0 (L.invariant x e).1 S.ensures P.ensures

pub returns : goal.returns
returns c =
    let x = c.args.x in
    let L = c.loop in
    power_end x L.p L.counter (omega arith) (L.invariant x c.times_lanes-s.ensures).1
