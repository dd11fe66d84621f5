-- `parity` meets its contract. Assumes nothing.
use borrow.Author.Rules.{rules}
use lib.ListN.{length}
use Rattle.base_rules.proofs.Logic.{told}
use Rattle.base_rules.proofs.ChunkSize.{k_most}
use Rattle.code_rules.proofs.CallCases as cases
use Rattle.code_encoder.proofs.calls.parity.Goals as goal

pub returns-then-bad_k : goal.returns-then-bad_k
returns-then-bad_k c =
    let A = c.args in
    cases.parity-size A.chunk.now A.out.now (told c.bad_k.ensures c.if-bad_k.true)

pub parity-p-requires : goal.parity-p-requires
parity-p-requires c =
    let E = c in
    k_most (length E.args.chunk.now) (told E.bad_k.ensures E.if-bad_k.false)

pub returns : goal.returns
returns c =
    let A = c.args in
    let P = c.parity-p in
    cases.parity_put A.chunk.now A.out.now P.result (told c.bad_k.ensures c.if-bad_k.false) (search rules) P.ensures c.put.ensures
