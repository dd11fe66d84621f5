-- `assured` meets its contract by either rule. Assumes nothing.
use Rattle.std.proofs.Common.{rules}
use Rattle.cut_rules.specs.Sizes.{assured}
use Rattle.cut.proofs.plans.Cut.assured.Goals as goal

pub returns-in-Older : goal.returns-in-Older
unfolding assured
returns-in-Older c = search rules

pub returns-in-Newer : goal.returns-in-Newer
unfolding assured
returns-in-Newer c = search rules
