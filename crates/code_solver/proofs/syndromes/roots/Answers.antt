use mathlib.Core.Path.{◌≡◌, sym, ap, ◌∙◌}
use Prim.Native.Nat.{suc, ◌<◌}
use native.Mathlib.Omega.{arith}
use lib.ListN.{replicate}
use Rattle.field_rules.specs.Field.{alpha, times2}
use Rattle.code_rules.specs.inner.Kernel.{roots_list}
use Rattle.code_rules.proofs.LoopLaws.{upto_start, upto_more, upto_end}
use Rattle.code_rules.proofs.LaneLaws.{roots_at, length-roots, alpha_next, alpha_0}
use Rattle.code_solver.proofs.syndromes.roots.Goals as goal

pub loop-power-init : goal.loop-power-init
loop-power-init c = (alpha_0, upto_start _ _)

pub loop-power-preserved : goal.loop-power-preserved
loop-power-preserved c =
    let L = c.loop-power in
    let I = L.invariant in
    let T = c.twice-x in
    let h : L.power-index < 48 = omega (arith, I.1.size) in
    let E : T.result ≡ alpha (suc L.power-index) = T.ensures ∙ ap times2 I.0 ∙ alpha_next L.power-index in
    let U = upto_more roots_list (replicate 48 0) L.power-index L.power-items T.result I.1 h (E ∙ sym (roots_at L.power-index h)) in
    (E ∙ ap alpha (omega arith), U)

pub returns : goal.returns
returns c =
    let L = c.loop-power in
    let I = L.invariant in
    upto_end roots_list (replicate 48 0) L.power-index L.power-items I.1 (omega (arith, I.1.size)) length-roots
