-- `tell_answer` meets its contract: what is held is told, and a refusal tells nothing. Assumes nothing.
use mathlib.Core.Path.{ap}
use Rattle.base_rules.specs.Refusal as refusals
use Rattle.card_rules.proofs.ToldLaws.{told_granted, told_refused}
use Rattle.card.proofs.telling.tell_answer.Goals as goal

pub returns-in-Ok : goal.returns-in-Ok
unfolding refusals.told
returns-in-Ok c s = told_granted s.args.widths.now _ s.args.told.now (ap (refusals.told c.T.Tells.values) s.in-Ok.is) s.figures.ensures s.tell.ensures

pub returns-in-Err : goal.returns-in-Err
unfolding refusals.told
returns-in-Err c s = rw s.refused.ensures (told_refused s.args.widths.now s.args.told.now (ap (refusals.told c.T.Tells.values) s.in-Err.is))
