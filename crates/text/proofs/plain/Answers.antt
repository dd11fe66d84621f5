-- `plain` meets its contract: as much of the text as fits is put where it belongs. Assumes nothing.
use mathlib.Core.Path.{sym}
use native.Mathlib.Omega.{arith}
use Rattle.text_rules.proofs.Laws.{laid_past, behind_past}
use Rattle.text_rules.proofs.Putting.{put_lays}
use Rattle.text.proofs.plain.Goals as goal

pub returns-then-out-at : goal.returns-then-out-at
returns-then-out-at c =
    let a = c.args in
    (sym (behind_past a.out.now a.at a.letters.now (omega arith)), sym (laid_past a.out.now a.at a.letters.now (omega arith)))

pub returns : goal.returns
returns c =
    let A = c.args in
    let Put = c.put in
    let a = A in
    put_lays a.out.now a.letters.now a.at _ c.min-n.ensures _ Put.result (omega arith)
    Put.ensures
