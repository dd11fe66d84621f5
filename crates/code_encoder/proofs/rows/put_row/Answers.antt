-- `put_row` meets its contract: what stood before it stays, and the row is copied behind. Assumes nothing.
use native.Mathlib.Omega.{arith}
use Rattle.std.proofs.lemmas.Grind.{common_steps}
use Rattle.code_rules.specs.inner.Kernel.{Made, RowOf}
use Rattle.code_encoder.proofs.rows.put_row.Goals as goal

pub returns : goal.returns
unfolding Made RowOf
returns c = λ i h. grind (arith, common_steps)
