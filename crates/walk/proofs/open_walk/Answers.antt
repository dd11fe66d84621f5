-- `walk::open_walk` meets its contract.
use mathlib.Core.Path.{◌∙◌}
use Rattle.walk_rules.specs.Step.{opens}
use Rattle.walk.proofs.open_walk.Goals as goal

pub returns : goal.returns
unfolding opens
returns c = let e = c.kept-refusal.ensures ∙ c.check.ensures in simp (← e)
