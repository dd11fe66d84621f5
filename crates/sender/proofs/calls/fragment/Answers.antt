-- `fragment` meets its contract: a refusal is handed on, and else the packet is sent. Assumes nothing.
use mathlib.Core.Path.{◌≡◌}
use Rattle.std.proofs.Common.{rules, Err}
use Rattle.base_rules.specs.Refusal.{told}
use Rattle.sender_rules.specs.Calls.{sent_number}
use Rattle.sender_rules.proofs.Cases.{one_refused}
use Rattle.sender.proofs.calls.fragment.Goals as goal

pub returns-in_err-of : goal.returns-in_err-of
unfolding sent_number told
returns-in_err-of c =
    let a = c.args in
    let e : c.from_residual.result ≡ Err c.in_err-of.field-0.0 = search rules in
    let due = c.in_err-of.ensures.due in
    rw e (one_refused a.g a.number a.packet.now a.out.now a.index _ due.1 due.0)
