-- `replies::labelled` meets its contract: the number goes on where the label stops. Assumes nothing.
use Rattle.text_rules.specs.Text.{decimal_of}
use Rattle.text_rules.proofs.Laws.{lays_more}
use Rattle.console.proofs.replies.labelled.Goals as goal

pub returns : goal.returns
returns c =
    let A = c.args in
    let Plain = c.plain-to in
    let a = A in
    lays_more a.out.now a.at a.label.now (decimal_of a.value) Plain.ensures c.decimal.ensures
