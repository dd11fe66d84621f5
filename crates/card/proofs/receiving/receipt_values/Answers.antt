-- `receipt_values` meets its contract, case by case. Assumes nothing.
use mathlib.Core.Path.{sym, ap}
use Rattle.card_rules.specs.Receiving.{displaced_told, receipt_told}
use Rattle.card.proofs.receiving.receipt_values.Goals as goal

pub returns-in-None : goal.returns-in-None
unfolding receipt_told displaced_told
returns-in-None c =
    let a = c.args in
    sym (ap (receipt_told a.handed a.length a.missing) c.in-None.is)

pub returns-in-Some : goal.returns-in-Some
unfolding receipt_told displaced_told
returns-in-Some c =
    let a = c.args in
    sym (ap (receipt_told a.handed a.length a.missing) c.in-Some.is)
