-- `fragments` meets its contract: a refusal is handed on, and else the packet is sent. Assumes nothing.
use mathlib.Core.Path.{◌≡◌}
use Rattle.std.proofs.Common.{rules, Err}
use Rattle.base_rules.specs.Refusal.{told}
use Rattle.sender_rules.specs.Calls.{all_number}
use Rattle.sender_rules.proofs.Cases.{all-refused}
use Rattle.sender.proofs.calls.fragments.Goals as goal

pub returns-in_err-of : goal.returns-in_err-of
unfolding all_number told
returns-in_err-of c =
    let a = c.args in
    let e : c.from_residual.result ≡ Err c.in_err-of.field-0.0 = search rules in
    let due = c.in_err-of.ensures.due in
    rw e (all-refused a.g a.number a.packet.now a.out.now _ due.1 due.0)
