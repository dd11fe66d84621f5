-- `fill_chunk_by` meets its contract. Assumes nothing.
use mathlib.Core.Path.{◌≡◌, sym}
use Prim.Native.Nat.{◌≤◌}
use native.Mathlib.Omega.{arith}
use borrow.Author.Rules.{rules}
use lib.ListN.{length}
use lib.Seq.{length-take-le}
use Rattle.code_rules.proofs.LaneLaws.{bytes_of, fits_byte}
use Rattle.code_rules.proofs.ChunkLaws.{tried_with}
use Rattle.code_decoder.proofs.chunk.fill_chunk_by.Goals as goal

pub slice_bounds-fill_in-end : goal.slice_bounds-fill_in-end
slice_bounds-fill_in-end c =
    let A = c.args in
    let few = c.requires.0.few in
    let Y = c.solve-y in
    let size : length Y.result ≡ 48 = search rules in
    let room : A.miss ≤ length Y.result = omega (arith, few, size) in
    sym (length-take-le A.miss Y.result room)

pub returns : goal.returns
returns c =
    let E = c in
    let A = E.args in
    let P = E.requires in
    let F = c.fill_in in
    let old = bytes_of A.chunk.now (λ i. fits_byte (E.slice_known-1.given i)) in
    let new = bytes_of F.new.word (λ i. fits_byte (c.slice_known-2-1.given i)) in
    let size : length F.new.word ≡ length A.chunk.now = search rules in
    tried_with A.chunk.now _ _ _ _ _ c.is_zero.result P.0 P.1 old new size E.remainder_of-r.ensures
    E.syndromes_at-s.ensures E.solve-y.ensures F.ensures c.remainder_of.ensures c.is_zero.ensures
