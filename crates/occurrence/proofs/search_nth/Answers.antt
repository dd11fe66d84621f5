-- `occurrence::search_nth` meets its contract.
use mathlib.Core.Path.{◌∙◌}
use Rattle.tag_rules.proofs.Hits.{alike_told}
use Rattle.occurrence.proofs.search_nth.Goals as goal

pub returns : goal.returns
returns c = alike_told _ _ c.sought.ensures ∙ c.locate_nth-l.ensures.1
