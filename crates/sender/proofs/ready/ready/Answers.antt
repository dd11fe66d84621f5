-- `ready` meets its contract: 40, then the AF checks, and then what the plan says. Assumes nothing.
use mathlib.Core.Path.{sym}
use Rattle.std.proofs.lemmas.Result.{err_from_is_err_and}
use Rattle.sender_rules.proofs.Checks as checks
use Rattle.sender.proofs.ready.ready.Goals as goal

pub returns-then-unfit : goal.returns-then-unfit
returns-then-unfit c =
    let a = c.args in
    checks.ready_40 a.g a.packet.now _ c.plan-planned.ensures (c.unfit.ensures.0 c.if-unfit.true)

pub returns-in_err-check : goal.returns-in_err-check
returns-in_err-check c =
    let a = c.args in
    let ok = checks.fit_else a.g _ _ c.plan-planned.ensures (c.unfit.ensures.1 c.if-unfit.false) in
    let p = err_from_is_err_and c.from_residual.result c.from_residual.ensures.1 in
    rw (p.1, p.2) (checks.ready_af a.g a.packet.now ok _ (checks.af-refused a.packet.now _ c.in_err-check.ensures))

pub returns : goal.returns
returns c =
    let a = c.args in
    let ok = checks.fit_else a.g _ _ c.plan-planned.ensures (c.unfit.ensures.1 c.if-unfit.false) in
    checks.ready_plan a.g a.packet.now ok _ c.plan-planned.ensures (sym (checks.af-granted a.packet.now _ c.in_ok-check.ensures))
