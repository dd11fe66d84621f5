-- `plans::write_cut` meets its contract: the losses assured go on where the figures stop. Assumes nothing.
use Rattle.text_rules.proofs.Writing.{goes}
use Rattle.console.proofs.plans.write_cut.Goals as goal

pub returns-then-ruled : goal.returns-then-ruled
returns-then-ruled c = goes _ c.write_plan-at.ensures c.labelled.ensures
