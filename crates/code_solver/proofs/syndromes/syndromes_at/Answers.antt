use mathlib.Core.Path.{ap, ◌∙◌}
use native.Mathlib.Omega.{arith}
use lib.Seq.{take_all}
use Rattle.code_rules.specs.inner.Solving.{syndromes_by}
use Rattle.code_rules.proofs.SolvingLaws.{syndromes_start, syndromes_more}
use Rattle.code_solver.proofs.syndromes.syndromes_at.Goals as goal

pub loop-c-init : goal.loop-c-init
loop-c-init c = syndromes_start c.args.k.now c.args.r

pub loop-c-preserved : goal.loop-c-preserved
loop-c-preserved c =
    let A = c.args in
    let L = c.loop-c in
    c.lanes-next.ensures ∙ syndromes_more A.k.now A.r L.s L.c-index (omega arith) L.invariant

pub returns : goal.returns
returns c =
    let A = c.args in
    let L = c.loop-c in
    L.invariant ∙ ap (syndromes_by A.k.now) (take_all L.c-index A.r (omega arith))
