-- `entry` meets its contract: the table holds the logarithms. Assumes nothing.
use mathlib.Core.Path.{ap, ◌∙◌}
use borrow.Author.Rules.{rules}
use lib.ListN.{get_or}
use Rattle.field_rules.proofs.Rules.{logs_at}
use Rattle.field.proofs.entry.Goals as goal

pub returns : goal.returns
returns c =
    let s = c in
    ap (λ i. get_or s.args.t.now i 0) c.from.ensures ∙ logs_at _ s.requires.1 s.args.x s.requires.0 (search rules)
