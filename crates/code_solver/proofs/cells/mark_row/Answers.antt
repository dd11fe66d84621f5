use mathlib.Core.Path.{◌≡◌, refl, sym, ap, ◌∙◌}
use mathlib.Core.Bool.{Bool, true, false, not}
use mathlib.Core.List.{List}
use Prim.Native.Nat.{ℕ, ◌%◌}
use native.Mathlib.Omega.{arith}
use mir.Val.{bool_byte}
use lib.ListN.{get_or}
use Rattle.base_rules.specs.Tests.{bit}
use Rattle.base_rules.proofs.Tables.{filled_none, filled_more}
use Rattle.code_rules.specs.Calls.{lost_cells}
use Rattle.code_rules.proofs.CellLaws.{in_row}
use Rattle.code_solver.proofs.cells.mark_row.Goals as goal

abbrev rule : List Bool → ℕ → ℕ → ℕ
rule kept f q = bit (not (get_or kept (q % f) false))

as_bit : (b : Bool) → bool_byte b ≡ bit b
as_bit true = refl
as_bit false = refl

pub loop-i-init : goal.loop-i-init
unfolding lost_cells
loop-i-init c =
    let A = c.args in
    filled_none (rule A.kept.now A.f) A.at A.mask.now A.at

pub loop-i-preserved : goal.loop-i-preserved
unfolding lost_cells
loop-i-preserved c =
    let A = c.args in
    let P = c.requires in
    let L = c.loop-i in
    let k : List Bool = A.kept.now in
    let i : ℕ = L.i in
    let here = as_bit (not (get_or k i false)) ∙ ap (λ (x : ℕ). bit (not (get_or k x false))) (sym (in_row A.at A.f P.0 i (omega arith))) in
    filled_more (rule k A.f) A.at A.mask.now A.at i L.invariant refl (c.from.ensures ∙ here) (omega arith)
