-- `scales` meets its contract. Assumes nothing.
use Rattle.code_rules.proofs.SolveLaws.{scales_is}
use Rattle.code_solver.proofs.patterns.scales.Goals as goal

pub returns : goal.returns
returns c =
    let A = c.args in
    let T = c.times_lanes in
    scales_is A.x A.d T.result c.inverses.result T.ensures c.inverses.ensures
