use mathlib.Core.Path.{ap, ◌∙◌}
use native.Mathlib.Omega.{arith}
use borrow.Author.Rules.{rules}
use lib.ListN.{length, get_or}
use Rattle.code_rules.proofs.PatternLaws.{length-root_step, locator_start, locator_more}
use Rattle.code_solver.proofs.patterns.locator.Goals as goal

pub loop-i-init : goal.loop-i-init
loop-i-init c =
    let O = c.one-p in
    (O.ensures.0, locator_start c.args.x O.result O.ensures.1)

pub loop-i-preserved : goal.loop-i-preserved
loop-i-preserved c =
    let x = c.args.x in
    let L = c.loop-i in
    let T = c.times_root-next in
    (ap length T.ensures ∙ length-root_step L.p (get_or x L.i 0), locator_more x L.p T.result L.i (omega arith) (search rules) L.invariant.1 T.ensures)
