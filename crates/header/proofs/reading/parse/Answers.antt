-- `parse` meets its contract: the number that is due, or the fields. Assumes nothing.
use Rattle.std.proofs.lemmas.Result.{err_from_is_err_and}
use Rattle.base_rules.specs.Refusal.{fault_in}
use Rattle.header_rules.proofs.Fields.{parse_refused, parse_read}
use Rattle.header_rules.proofs.Numbers.{parse_told}
use Rattle.header.proofs.reading.parse.Goals as goal

pub returns-in_err-fault : goal.returns-in_err-fault
unfolding fault_in
returns-in_err-fault c =
    let a = c.args in
    let p = err_from_is_err_and c.from_residual.result c.from_residual.ensures.1 in
    rw (p.1, p.2) (parse_told a.own a.s.now _ (parse_refused a.own a.s.now _ c.in_err-fault.ensures))

pub returns : goal.returns
unfolding fault_in
returns c =
    let a = c.args in
    parse_told a.own a.s.now _ (parse_read a.own a.s.now _ c.in_ok-fault.ensures c.fields_of.ensures)
