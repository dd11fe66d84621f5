-- `reader::refusal_of` meets its contract.
use mathlib.Core.Path.{sym, ap, ◌∙◌}
use Rattle.base_rules.specs.Refusal.{fault_in}
use Rattle.tag_rules.proofs.Proved.{opens}
use Rattle.reader.proofs.refusal_of.Goals as goal

pub returns-in-Ok : goal.returns-in-Ok
unfolding fault_in
returns-in-Ok c = ap fault_in (sym c.in-Ok.is) ∙ (opens _ _ _ c.open_reader.ensures).1

pub returns-in-Err : goal.returns-in-Err
unfolding fault_in
returns-in-Err c = c.from.ensures ∙ ap fault_in (sym c.in-Err.is) ∙ (opens _ _ _ c.open_reader.ensures).1
