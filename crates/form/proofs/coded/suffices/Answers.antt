-- `suffices` meets its contract: each answer is the law for its case. Assumes nothing.
use mathlib.Core.Path.{ap, ◌∙◌}
use Rattle.std.specs.Prelude.{Ok}
use Rattle.form_rules.proofs.Decoding as laws
use Rattle.form.proofs.coded.suffices.Goals as goal

pub returns-in-Ok-Enough : goal.returns-in-Ok-Enough
returns-in-Ok-Enough c =
    let A = c.args in
    let P = c.requires in
    let Enough = c.enough in
    laws.suffices_yes A.p P.0 P.1 Enough.result (c.in-Ok-Enough.is ∙ ap Ok c.in-Ok-Enough.field-0-is) Enough.ensures

pub returns-in-Ok-NotEnough : goal.returns-in-Ok-NotEnough
returns-in-Ok-NotEnough c =
    let A = c.args in
    let P = c.requires in
    let Enough = c.enough in
    laws.suffices_no A.p P.0 P.1 Enough.result (c.in-Ok-NotEnough.is ∙ ap Ok c.in-Ok-NotEnough.field-0-is) Enough.ensures

pub returns-in-Err : goal.returns-in-Err
returns-in-Err c =
    let A = c.args in
    let P = c.requires in
    let Enough = c.enough in
    laws.suffices_refused A.p P.0 P.1 Enough.result _ c.in-Err.is Enough.ensures
