-- `fill` meets its contract. Assumes nothing.
use mathlib.Core.Path.{sym, ap, ◌∙◌}
use mathlib.Core.Bool.{true, false}
use Rattle.std.specs.Prelude.{Ok}
use Rattle.std.proofs.lemmas.Result.{err_from_is_err_and}
use Rattle.base_rules.specs.Refusal.{told}
use Rattle.weave_rules.specs.Calls.{values_of, number_of}
use Rattle.weave_rules.specs.declared.Held.{Held}
use Rattle.code_rules.proofs.CellLaws.{standing, fill-refused}
use Rattle.code_decoder.proofs.calls.fill.Goals as goal

pub fill_cells-requires : goal.fill_cells-requires
unfolding number_of told values_of
fill_cells-requires c =
    let A = c.args in
    standing A.kept A.f A.s A.k true (sym (ap (λ (h : Held). number_of (Ok h)) c.in-Enough.is) ∙ c.in_ok-enough.ensures)

pub fill_cells-requires-in-NotEnough : goal.fill_cells-requires-in-NotEnough
unfolding number_of told values_of
fill_cells-requires-in-NotEnough c =
    let A = c.args in
    standing A.kept A.f A.s A.k false (sym (ap (λ (h : Held). number_of (Ok h)) c.in-NotEnough.is) ∙ c.in_ok-enough.ensures)

pub returns-in_err-enough : goal.returns-in_err-enough
returns-in_err-enough c =
    let A = c.args in
    let p = err_from_is_err_and c.from_residual.result c.from_residual.ensures.1 in
    rw (p.1, p.2) (fill-refused A.kept A.f A.s A.k _ A.block.now c.in_err-enough.ensures)
