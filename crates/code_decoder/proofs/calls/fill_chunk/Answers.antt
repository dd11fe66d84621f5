-- `fill_chunk` meets its contract: a block of one chunk. Assumes nothing.
use Prim.Native.Nat.{◌≤◌}
use native.Mathlib.Omega.{arith}
use borrow.Author.Rules.{rules}
use Rattle.base_rules.proofs.Logic.{told}
use Rattle.codeword.specs.Erasure.{marks, count}
use Rattle.code_rules.proofs.CallCases as cases
use Rattle.code_decoder.proofs.calls.fill_chunk.Goals as goal

pub returns-then-bad_pair : goal.returns-then-bad_pair
returns-then-bad_pair c =
    let A = c.args in
    cases.chunk-refused A.k A.mask.now A.chunk.now (told c.bad_pair.ensures c.if-bad_pair.true)

pub fill_block-requires : goal.fill_block-requires
fill_block-requires c =
    let few : count (marks c.args.mask.now) ≤ 48 = omega (arith, c.missing_count.ensures) in
    (cases.chunk_ready _ _ _ (told c.bad_pair.ensures c.if-bad_pair.false) few, search rules)

pub returns-then-fill_block : goal.returns-then-fill_block
returns-then-fill_block c =
    let F = c.fill_block in
    let few : count (marks c.args.mask.now) ≤ 48 = omega (arith, c.missing_count.ensures) in
    cases.chunk_done _ _ _ (told c.bad_pair.ensures c.if-bad_pair.false) few F.new.block (search rules) (rw c.if-fill_block.true at F.ensures)

pub returns : goal.returns
returns c =
    let F = c.fill_block in
    let few : count (marks c.args.mask.now) ≤ 48 = omega (arith, c.missing_count.ensures) in
    cases.chunk_nothing _ _ _ (told c.bad_pair.ensures c.if-bad_pair.false) few F.new.block (rw c.if-fill_block.false at F.ensures)
