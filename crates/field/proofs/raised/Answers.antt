-- `raised` meets its contract: the table holds the powers of α. Assumes nothing.
use borrow.Author.Rules.{rules}
use Rattle.field_rules.proofs.Rules.{exps_at}
use Rattle.field.proofs.raised.Goals as goal

pub returns : goal.returns
returns c = exps_at _ c.powers-t.ensures _ (search rules)
