-- `check` meets its contract: the number that is due, or the figures. Assumes nothing.
use mathlib.Core.Path.{refl}
use Rattle.std.proofs.lemmas.Result.{err_from_is_err_and}
use Rattle.base_rules.specs.Refusal.{fault_in}
use Rattle.af_rules.proofs.Checks.{check_refused, check_granted}
use Rattle.af.proofs.checking.check.Goals as goal

pub returns-in_err-fault : goal.returns-in_err-fault
unfolding fault_in
returns-in_err-fault c =
    let p = err_from_is_err_and c.from_residual.result c.from_residual.ensures.1 in
    rw (p.1, p.2) (check_refused c.args.packet.now _ c.in_err-fault.ensures)

pub returns : goal.returns
unfolding fault_in
returns c =
    check_granted c.args.packet.now _ c.ar_of.result c.in_ok-fault.ensures c.read2.ensures
    c.cf_of.ensures c.ar_of.ensures refl c.read4.ensures
