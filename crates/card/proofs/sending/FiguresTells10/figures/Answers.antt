-- `figures` of a plan meets its contract. Assumes nothing.
use mathlib.Core.Path.{refl}
use Rattle.cut_rules.specs.Plan.{values_of}
use Rattle.card.proofs.sending.FiguresTells10.figures.Goals as goal

pub returns : goal.returns
unfolding values_of
returns c = refl
