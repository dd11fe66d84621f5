-- `encode_one` meets its contract. Assumes nothing.
use mathlib.Core.Path.{◌≡◌, sym, ap, ◌∙◌}
use Prim.Native.Nat.{ℕ, ◌+◌, ◌-◌, ◌*◌, ◌≤◌, ◌<◌}
use native.Mathlib.Omega.{arith}
use lib.ListN.{length, take, drop}
use mathlib.Core.List.{List}
use Rattle.code_rules.specs.inner.Block.{EncSized}
use Rattle.base_rules.proofs.Parts.{part_room, length_part, mid_part}
use Rattle.code_rules.proofs.EncodedLaws.{one_encoded}
use Rattle.code_encoder.proofs.blocks.encode_one.Goals as goal

ends : {src out : List ℕ} (k c j : ℕ) → EncSized k c src out → j < c
    → (j * k + k ≤ length src) × (j * (k + 48) + (k + 48) ≤ length out)
ends k c j s h =
    (omega (arith, part_room k c j h, s.datas), omega (arith, part_room (k + 48) c j h, s.chunks))

pub overflow_mul-a : goal.overflow_mul-a
overflow_mul-a c = omega (arith, ends c.args.k c.args.c c.args.j c.requires.0 c.requires.1)

pub overflow_add-b : goal.overflow_add-b
overflow_add-b c = omega (arith, ends c.args.k c.args.c c.args.j c.requires.0 c.requires.1)

pub overflow_mul-f : goal.overflow_mul-f
overflow_mul-f c = omega (arith, ends c.args.k c.args.c c.args.j c.requires.0 c.requires.1)

pub overflow_add-e : goal.overflow_add-e
overflow_add-e c = omega (arith, ends c.args.k c.args.c c.args.j c.requires.0 c.requires.1)

pub slice_bounds-encode_chunk-end : goal.slice_bounds-encode_chunk-end
slice_bounds-encode_chunk-end c = omega (arith, ends c.args.k c.args.c c.args.j c.requires.0 c.requires.1)

pub slice_bounds-encode_chunk-end-2 : goal.slice_bounds-encode_chunk-end-2
slice_bounds-encode_chunk-end-2 c = omega (arith, ends c.args.k c.args.c c.args.j c.requires.0 c.requires.1)

pub encode_chunk-requires : goal.encode_chunk-requires
encode_chunk-requires c =
    let A = c.args in
    let P = c.requires in
    let k = A.k in
    let j = A.j in
    let E : length (take (j * k + k - j * k) (drop (j * k) A.src.now)) ≡ k =
    ap length (mid_part k j A.src.now) ∙ length_part k A.c j A.src.now (omega (arith, P.0.datas)) P.1 in
    let G : length (take (j * (k + 48) + (k + 48) - j * (k + 48)) (drop (j * (k + 48)) A.out.now)) ≡ k + 48 =
    ap length (mid_part (k + 48) j A.out.now) ∙ length_part (k + 48) A.c j A.out.now (omega (arith, P.0.chunks)) P.1 in
    (omega (arith, E, P.0.short), G ∙ ap (λ n. n + 48) (sym E))

pub returns : goal.returns
returns c =
    let A = c.args in
    let P = c.requires in
    let N = c.encode_chunk in
    one_encoded A.k A.c A.j A.src.now A.out.now N.new.out P.0 P.1 N.ensures
