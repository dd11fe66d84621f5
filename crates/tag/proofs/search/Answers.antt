-- `tag::search` meets its contract.
use mathlib.Core.Path.{◌∙◌}
use Rattle.tag_rules.proofs.Hits.{alike_told}
use Rattle.tag.proofs.search.Goals as goal

pub returns : goal.returns
returns c = alike_told _ _ c.sought.ensures ∙ c.locate-l.ensures.1
