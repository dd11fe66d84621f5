-- `bad_pair` meets its contract. Assumes nothing.
use Prim.Native.Nat.{◌+◌}
use native.Mathlib.Omega.{arith}
use borrow.Author.Tests.{eq-eqb, ne_eqb}
use Rattle.base_rules.proofs.ChunkSize.{k_most}
use Rattle.base_rules.proofs.Logic.{told}
use Rattle.code_rules.specs.Calls.{bad_pair}
use Rattle.code_decoder.proofs.calls.bad_pair.Goals as goal

pub returns-then-bad_k : goal.returns-then-bad_k
unfolding bad_pair
returns-then-bad_k c = rw (told c.bad_k.ensures c.if-bad_k.true)

pub overflow_add-k : goal.overflow_add-k
overflow_add-k c = omega (arith, k_most c.args.k (told c.bad_k.ensures c.if-bad_k.false))

pub returns-then-mask-k : goal.returns-then-mask-k
unfolding bad_pair
returns-then-mask-k c =
    let A = c.args in
    rw (told c.bad_k.ensures c.if-bad_k.false, ne_eqb A.mask (A.k + 48) c.if-mask-k.true)

pub returns : goal.returns
unfolding bad_pair
returns c =
    let A = c.args in
    rw (told c.bad_k.ensures c.if-bad_k.false, eq-eqb A.mask (A.k + 48) c.if-mask-k.false)
