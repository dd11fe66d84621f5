-- `accepted` meets its contract, by the answer of the check. Assumes nothing.
use mathlib.Core.Path.{sym, ap, ◌∙◌}
use Rattle.af_rules.specs.Calls.{number_of}
use Rattle.form_rules.proofs.Checks.{passed, not_passed}
use Rattle.form.proofs.calls.accepted.Goals as goal

pub returns-in-Ok : goal.returns-in-Ok
returns-in-Ok c =
    passed c.args.packet.now _ (sym (ap number_of c.in-Ok.is) ∙ c.check.ensures)

pub returns-in-Err : goal.returns-in-Err
returns-in-Err c =
    not_passed c.args.packet.now _ (sym (ap number_of c.in-Err.is)
    ∙ c.check.ensures)
