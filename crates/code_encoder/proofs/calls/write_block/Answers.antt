-- `write_block` meets its contract. Assumes nothing.
use mathlib.Core.Path.{◌≡◌, sym, ap, ◌∙◌}
use Prim.Native.Nat.{◌-◌, ◌*◌, ◌≤◌}
use native.Mathlib.Omega.{arith}
use borrow.Author.Rules.{rules}
use lib.ListN.{length, take}
use lib.Seq.{length-take-le}
use Rattle.cut_rules.specs.Block.{padded, block_of}
use Rattle.codeword.specs.Code.{parity_of}
use Rattle.code_rules.proofs.CallCases.{pad-take, block_is}
use Rattle.code_encoder.proofs.calls.write_block.Goals as goal

pub slice_bounds-encode_block-end : goal.slice_bounds-encode_block-end
slice_bounds-encode_block-end c =
    let A = c.args in
    let w = c.pad-w.result in
    let long : A.c * A.k ≤ length w = search rules in
    sym (length-take-le (A.c * A.k) w long)

pub encode_block-requires : goal.encode_block-requires
encode_block-requires c =
    let A = c.args in
    let P = c.requires in
    let w = c.pad-w.result in
    let long : A.c * A.k ≤ length w = search rules in
    record { short = P.0; datas = length-take-le (A.c * A.k) w long; chunks = P.3 }

pub returns : goal.returns
returns c =
    let A = c.args in
    let P = c.requires in
    let n = A.c * A.k in
    let w = c.pad-w in
    let src : take n w.result ≡ padded A.packet.now (n - length A.packet.now) =
    ap (take n) w.ensures ∙ pad-take A.packet.now n 12288 P.1 P.2 in
    let long : n ≤ length w.result = search rules in
    let size : length (take n w.result) ≡ n = length-take-le n w.result long in
    block_is A.k A.c (take n w.result) _ (omega arith) (search rules) c.encode_block.ensures
    ∙ ap (λ l. block_of parity_of l A.k A.c) src
