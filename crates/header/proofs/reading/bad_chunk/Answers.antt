-- `bad_chunk` meets its contract, test by test. Assumes nothing.
use mathlib.Core.Path.{◌∙◌}
use native.Mathlib.Omega.{arith}
use borrow.Author.Tests.{ltb-true, ltb-false}
use Rattle.base_rules.proofs.ChunkSize.{k_most}
use Rattle.base_rules.proofs.Logic.{told, clash}
use Rattle.header_rules.proofs.Fields.{chunk_none, chunk_less, chunk_rest}
use Rattle.header.proofs.reading.bad_chunk.Goals.{then-bad_k, else-bad_k}
use Rattle.header.proofs.reading.bad_chunk.Goals as goal

pub overflow_add-k : goal.overflow_add-k
overflow_add-k c = omega (arith, k_most c.args.k (told c.bad_k.ensures c.if-bad_k.false))

pub returns-then-f-s : goal.returns-then-f-s
returns-then-f-s c =
    let a = c.args in
    c.if-f-s.true
    ∙ elim c.if-bad_k.branch [
      | then-bad_k w ↦ chunk_none a.f a.s a.k a.z (told c.bad_k.ensures w.if-bad_k.true)
      | else-bad_k w ↦ chunk_less a.f a.s a.k a.z (told c.bad_k.ensures w.if-bad_k.false) (ltb-true _ _ (told w.value-is c.if-f-s.true))
    ]

pub returns-else-f-s : goal.returns-else-f-s
returns-else-f-s c =
    let a = c.args in
    elim c.if-bad_k.branch [
      | then-bad_k w ↦ clash w.if-bad_k.true (told w.value-is c.if-f-s.false)
      | else-bad_k w ↦ chunk_rest a.f a.s a.k a.z (told c.bad_k.ensures w.if-bad_k.false) (ltb-false _ _ (told w.value-is c.if-f-s.false))
    ]
