use mathlib.Core.Path.{◌≡◌, ◌∙◌, subst}
use native.Mathlib.Omega.{arith}
use Rattle.code_rules.specs.inner.Block.{Encoded}
use Rattle.code_rules.proofs.EncodedLaws.{encoded_more, encoded_start}
use Rattle.code_encoder.proofs.blocks.encode_block.Goals as goal

pub loop-j-init : goal.loop-j-init
loop-j-init c =
    let A = c.args in
    (c.requires, encoded_start A.k A.src.now A.out.now)

pub encode_one-requires : goal.encode_one-requires
encode_one-requires c = (c.loop-j.invariant.0, omega arith)

pub loop-j-preserved : goal.loop-j-preserved
loop-j-preserved c =
    let L = c.loop-j in
    let A = c.args in
    let S = L.invariant.0 in
    let N = c.encode_one in
    let more = encoded_more A.k A.c L.j A.src.now L.out N.new.out (omega arith) L.invariant.1 N.ensures in
    (record { short = S.short; datas = S.datas; chunks = N.ensures.size ∙ S.chunks }, more)

pub returns : goal.returns
returns c =
    let L = c.loop-j in
    let A = c.args in
    let h : L.j ≡ A.c = omega arith in
    subst (λ n. Encoded A.k n A.src.now L.out) h L.invariant.1
