-- `figures` of a split meets its contract. Assumes nothing.
use mathlib.Core.Path.{refl}
use Rattle.sender_rules.specs.Calls.{split_values}
use Rattle.card.proofs.sending.SplitTells4.figures.Goals as goal

pub returns : goal.returns
unfolding split_values
returns c = refl
