-- `filled_number` meets its contract, case by case. Assumes nothing.
use Rattle.std.specs.Prelude.{Ok}
use mathlib.Core.Path.{sym, ap, ◌∙◌}
use Rattle.base_rules.specs.Refusal.{told}
use Rattle.code_rules.specs.Calls.{number_of, values_of}
use Rattle.card_rules.specs.Blocks.{one_number, filled_number}
use Rattle.card.proofs.blocks.filled_number.Goals as goal

pub returns-in-Done : goal.returns-in-Done
unfolding one_number number_of told values_of
returns-in-Done c = sym (ap filled_number (c.in-Ok.is ∙ ap Ok c.in-Done.is))

pub returns-in-Nothing : goal.returns-in-Nothing
unfolding one_number number_of told values_of
returns-in-Nothing c = sym (ap filled_number (c.in-Ok.is ∙ ap Ok c.in-Nothing.is))

pub returns-in-NotEnough : goal.returns-in-NotEnough
unfolding one_number number_of told values_of
returns-in-NotEnough c = sym (ap filled_number (c.in-Ok.is ∙ ap Ok c.in-NotEnough.is))

pub returns-in-Err : goal.returns-in-Err
unfolding one_number number_of told
returns-in-Err c = c.refused.ensures ∙ sym (ap filled_number c.in-Err.is)
