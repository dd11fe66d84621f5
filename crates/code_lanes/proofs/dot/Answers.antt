-- `dot` meets its contract. Assumes nothing.
use Rattle.code_rules.specs.inner.Kernel.{dotted}
use Rattle.code_lanes.proofs.dot.Goals as goal

pub returns : goal.returns
unfolding dotted
returns c = cc
