-- `header` meets its contract: the settings' own flag and address. Assumes nothing.
use Rattle.cut_rules.specs.Sizes.{h}
use Rattle.cut.proofs.plans.header.Goals as goal

pub returns : goal.returns
unfolding h
returns c = c.header_length.ensures
