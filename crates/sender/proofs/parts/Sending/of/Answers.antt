-- `of` meets its contract: the figures of what is not refused are the packet's, and a refusal is handed on. Assumes nothing.
use mathlib.Core.Path.{◌≡◌}
use Rattle.std.proofs.Common.{rules, Err}
use Rattle.sender_rules.proofs.Checks.{figured, unready}
use Rattle.sender.proofs.parts.Sending.of.Goals as goal

pub returns-in_err-p-clause-due : goal.returns-in_err-p-clause-due
returns-in_err-p-clause-due c =
    let e : c.from_residual.result ≡ Err c.in_err-p.field-0.0 = search rules in
    rw e (unready c.args.g c.args.packet.now _ c.in_err-p.ensures)

pub invariant_of-result : goal.invariant_of-result
invariant_of-result c = record { figured = figured _ _ _ c.in_ok-p.ensures }
