-- `encode_chunk` meets its contract. Assumes nothing.
use mathlib.Core.Path.{◌≡◌}
use Prim.Native.Nat.{◌+◌, ◌≤◌}
use borrow.Author.Rules.{rules}
use lib.ListN.{length}
use Rattle.base_rules.proofs.Answers.{put_is}
use Rattle.code_rules.proofs.CallCases.{encode_put}
use Rattle.code_encoder.proofs.blocks.encode_chunk.Goals as goal

pub returns : goal.returns
returns c =
    let S = c in
    let A = S.args in
    let P = S.requires in
    let d = A.d.now in
    let Q = c.parity-p in
    let p = Q.result in
    let R = c.put in
    let x = R.new.d in
    let W = c.put-2 in
    let lp : length p ≡ 48 = search rules in
    let lx : length x ≡ length A.out.now = search rules in
    let one : 0 + length d ≤ length A.out.now = search rules in
    let two : length d + length p ≤ length x = search rules in
    encode_put A.out.now d p x W.new.d P.1 lp Q.ensures
    (put_is A.out.now d x 0 _ one R.ensures)
    (put_is x p W.new.d (length d) _ two W.ensures)
