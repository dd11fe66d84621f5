-- `watch` meets its contract: what was read is what is seen. Assumes nothing.
use mathlib.Core.Path.{ap, ◌∙◌}
use Rattle.bandwidth_rules.specs.Seen.{seen_of}
use Rattle.bandwidth.proofs.watch.Goals as goal

pub returns : goal.returns
returns c = (c.read-answer.ensures.0, c.read-answer.ensures.1, c.seen.ensures ∙ ap (seen_of _) c.read-answer.ensures.0)
