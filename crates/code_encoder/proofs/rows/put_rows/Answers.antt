use mathlib.Core.Path.{subst}
use mathlib.Core.List.{List}
use Prim.Native.Nat.{ℕ}
use native.Mathlib.Omega.{arith}
use Rattle.code_rules.specs.inner.Kernel.{Made, Multiples}
use Rattle.code_rules.proofs.TableLaws.{row_by}
use Rattle.code_encoder.proofs.rows.put_rows.Goals as goal

pub loop-u-init : goal.loop-u-init
loop-u-init c = subst (λ m. Made c.args.t.now m) (omega arith) c.requires.2

pub put_row-requires : goal.put_row-requires
put_row-requires c =
    let A = c.args in
    let P = c.requires in
    let L = c.loop-u in
    let k = c.multiples-k.result in
    let M = subst (λ (l : List ℕ). Multiples l k) P.1 c.multiples-k.ensures in
    (omega arith, L.invariant, row_by A.n L.u c.factor.result k c.lanes.result P.0 (omega arith) M c.factor.ensures c.lanes.ensures)

pub loop-u-preserved : goal.loop-u-preserved
loop-u-preserved c =
    let R = c.put_row in
    subst (λ m. Made R.new.t m) (omega arith) R.ensures

pub returns : goal.returns
returns c =
    let L = c.loop-u in
    subst (λ m. Made L.t m) (omega arith) L.invariant
