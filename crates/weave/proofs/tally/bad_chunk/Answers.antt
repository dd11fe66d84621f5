-- `bad_chunk` meets its contract. Assumes nothing.
use native.Mathlib.Omega.{arith}
use Rattle.base_rules.proofs.ChunkSize.{k_most}
use Rattle.base_rules.proofs.Logic.{told}
use Rattle.weave_rules.specs.Calls.{bad_chunk}
use Rattle.weave.proofs.tally.bad_chunk.Goals as goal

pub returns-then-bad_k : goal.returns-then-bad_k
unfolding bad_chunk
returns-then-bad_k c = rw (told c.bad_k.ensures c.if-bad_k.true, c.if-bad_k.true)

pub overflow_add-result : goal.overflow_add-result
overflow_add-result c = omega (arith, k_most c.args.k (told c.bad_k.ensures c.if-bad_k.false))

pub returns-else-bad_k : goal.returns-else-bad_k
unfolding bad_chunk
returns-else-bad_k c = rw (told c.bad_k.ensures c.if-bad_k.false)
