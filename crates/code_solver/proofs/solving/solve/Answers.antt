use mathlib.Core.Path.{refl, ap, ◌∙◌}
use Prim.Native.Nat.{◌-◌}
use native.Mathlib.Omega.{arith}
use lib.ListN.{length, replicate}
use Rattle.code_rules.specs.inner.Kernel.{lane_by}
use Rattle.code_rules.specs.inner.Patterns.{row_of, mixed}
use Rattle.code_rules.specs.inner.Solving.{solved_by}
use Rattle.code_rules.proofs.LaneLaws.{length-table}
use Rattle.code_rules.proofs.SolveLaws.{mixed_start, mixed_more, mixed_end}
use Rattle.code_solver.proofs.solving.solve.Goals as goal

pub loop-i-init : goal.loop-i-init
loop-i-init c = mixed_start c.args.s c.args.q.now c.min-n.result

pub add_row-requires : goal.add_row-requires
add_row-requires c = (omega arith, ap length c.loop-i.invariant ∙ length-table 48 _)

pub loop-i-preserved : goal.loop-i-preserved
loop-i-preserved c =
    let A = c.args in
    let L = c.loop-i in
    let n = c.min-n.result in
    mixed_more A.s A.q.now L.y (row_of A.q.now (n - 1 - L.i)) c.add_row.new.y n L.i (omega arith) (omega arith) L.invariant refl c.add_row.ensures

pub returns : goal.returns
unfolding solved_by
returns c =
    let A = c.args in
    let L = c.loop-i in
    let n = c.min-n.result in
    c.lanes.ensures ∙ ap (λ y. lane_by A.sc.now y (replicate 48 0)) (mixed_end A.s A.q.now L.y n L.i (omega arith) L.invariant)
    ∙ ap (λ n. lane_by A.sc.now (mixed A.s A.q.now n) (replicate 48 0)) c.min-n.ensures
