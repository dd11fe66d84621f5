use mathlib.Core.Path.{sym, ap, ◌∙◌}
use Prim.Native.Nat.{◌-◌, ◌<◌}
use native.Mathlib.Omega.{arith}
use lib.ListN.{length}
use Rattle.field_rules.specs.Field.{alpha}
use Rattle.code_rules.proofs.MaskLaws.{located_skip, located_over, located_more, located_end}
use Rattle.code_solver.proofs.masks.locate.Goals as goal
use Rattle.code_solver.proofs.masks.locate.Goals.{then-m-ne0+then-e-lt-PARITY, else-m-ne0, else-m-ne0-via-then-m-ne0+else-e-lt-PARITY, else-m-ne0-via-else-m-ne0}

pub loop-i-preserved : goal.loop-i-preserved
loop-i-preserved c =
    let A = c.args in
    let L = c.loop-i in
    let I = L.invariant in
    let h : L.i < length A.mask.now = omega (arith, c.requires) in
    let skip = located_skip A.mask.now L.i L.e L.xs h I in
    let over = located_over A.mask.now L.i L.e L.xs h I in
    let more = located_more A.mask.now L.i L.e L.xs h I in
    let at = ap (λ n. alpha (n - 1 - L.i)) (sym c.requires) in
    elim c.if-m-ne0.branch [
      | then-m-ne0+then-e-lt-PARITY w ↦
          rw (w.xs-is, w.e-is) (more w.if-m-ne0.true w.if-e-lt-PARITY.true w.power.result (w.power.ensures ∙ at))
      | else-m-ne0 w ↦
          rw (w.xs-is, w.e-is) (elim w.else-m-ne0.branch [
            | else-m-ne0-via-then-m-ne0+else-e-lt-PARITY v ↦ over v.if-e-lt-PARITY.false
            | else-m-ne0-via-else-m-ne0 v ↦ skip v.if-m-ne0.false
          ])
    ]

pub returns : goal.returns
returns c =
    let L = c.loop-i in
    located_end c.args.mask.now L.i L.e L.xs (omega (arith, c.requires)) L.invariant
