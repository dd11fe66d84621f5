-- `reader::first` meets its contract: the reader that `open` makes is passed to `step`.
use mathlib.Core.Path.{ap, ◌∙◌}
use Rattle.tag_rules.proofs.Numbers.{first_told}
use Rattle.reader.specs.Steps.{step_of}
use Rattle.reader.proofs.first.Goals as goal

pub returns : goal.returns
returns c = first_told _ _ _ (c.step.ensures.0 ∙ ap step_of c.open.ensures)
