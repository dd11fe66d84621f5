use mathlib.Core.Path.{◌≡◌, ap, ◌∙◌, sym}
use Prim.Native.Nat.{ℕ, ◌*◌}
use native.Mathlib.Omega.{arith}
use native.Mathlib.Nat.{zero-mul, mul_comm}
use Rattle.base_rules.specs.Bytes.{splice}
use Rattle.base_rules.specs.Table.{table}
use Rattle.base_rules.proofs.Tables as tables
use Rattle.cut_rules.specs.Cells.{cell_of, cells_of}
use Rattle.weave_rules.proofs.CallCases.{rows_more}
use Rattle.weave.proofs.rows.lay.Goals as goal

pub loop-o-init : goal.loop-o-init
loop-o-init c =
    let a = c.args in
    tables.filled_none (cell_of a.held.now a.f a.s) 0 a.out.now 0
    ∙ ap (λ (x : ℕ). splice a.out.now 0 (table (cell_of a.held.now a.f a.s) 0 x)) (sym (zero-mul a.f))

pub loop-o-preserved : goal.loop-o-preserved
loop-o-preserved c =
    let a = c.args in
    let L = c.loop-o in
    rows_more a.held.now a.out.now L.out _ a.f a.s L.o L.invariant c.lay_row.ensures

pub returns : goal.returns
unfolding cells_of
returns c = let a = c.args in
    let e : c.loop-o.o ≡ a.s = omega arith in
    let all : c.loop-o.o * a.f ≡ a.f * a.s = ap (λ (x : ℕ). x * a.f) e ∙ mul_comm a.s a.f in
    c.loop-o.invariant ∙ ap (λ (x : ℕ). splice a.out.now 0 (table (cell_of a.held.now a.f a.s) 0 x)) all
