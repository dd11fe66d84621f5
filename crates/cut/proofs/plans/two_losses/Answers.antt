-- `two_losses` meets its contract: `set_for` makes these settings of its figures. Assumes nothing.
use Rattle.cut.proofs.plans.two_losses.Goals as goal

pub returns : goal.returns
returns c = c.set_for.ensures
