-- `fits` meets its contract: its tests are those of `fit`, in the same order. Assumes nothing.
use Rattle.std.proofs.Common.{rules}
use Rattle.cut_rules.specs.Plan.{fit}
use Rattle.cut.proofs.plans.fits.Goals as goal

pub returns-then-header-g : goal.returns-then-header-g
unfolding fit
returns-then-header-g c = search rules

pub returns-else-header-g : goal.returns-else-header-g
unfolding fit
returns-else-header-g c = search rules
