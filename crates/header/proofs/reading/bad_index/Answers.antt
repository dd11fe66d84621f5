-- `bad_index` meets its contract. Assumes nothing.
use mathlib.Core.Path.{◌∙◌}
use Rattle.base_rules.proofs.Logic.{told, hit}
use Rattle.header_rules.specs.Read.{bad_index}
use Rattle.header.proofs.reading.bad_index.Goals as goal

pub returns-then-bad_count : goal.returns-then-bad_count
unfolding bad_index
returns-then-bad_count c = c.if-bad_count.true ∙ hit _ (told c.bad_count.ensures c.if-bad_count.true)

pub returns-else-bad_count : goal.returns-else-bad_count
unfolding bad_index
returns-else-bad_count c = rw (told c.bad_count.ensures c.if-bad_count.false)
