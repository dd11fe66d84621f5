-- `walk::kept` meets its contract.
use mathlib.Core.Path.{sym, ap, ◌∙◌}
use Rattle.base_rules.specs.Refusal.{fault_in}
use Rattle.walk.proofs.kept.Goals as goal

pub returns-in-Ok : goal.returns-in-Ok
unfolding fault_in
returns-in-Ok c = sym (ap fault_in c.in-Ok.is)

pub returns-in-Err : goal.returns-in-Err
unfolding fault_in
returns-in-Err c = c.from.ensures ∙ sym (ap fault_in c.in-Err.is)
