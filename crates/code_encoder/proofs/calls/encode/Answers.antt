-- `encode` meets its contract. Assumes nothing.
use mathlib.Core.Path.{sym}
use Prim.Native.Nat.{◌+◌, ◌*◌}
use native.Mathlib.Omega.{arith}
use lib.ListN.{length}
use lib.Seq.{length-take-le}
use Rattle.base_rules.proofs.Logic.{told}
use Rattle.base_rules.proofs.ChunkSize.{k_most}
use Rattle.code_rules.proofs.CallCases as cases
use Rattle.code_rules.proofs.Misfits.{fits_in_last}
use Rattle.code_encoder.proofs.calls.encode.Goals as goal
use Rattle.code_encoder.proofs.calls.encode.Goals.{then-bad_k-via-then-bad_k, then-bad_k-via-else-bad_k+then-over_place, then-bad_k-via-else-bad_k+else-over_place+then-misfit}

pub returns-then-bad_k : goal.returns-then-bad_k
returns-then-bad_k c =
    let A = c.args in
    elim c.then-bad_k.branch [
      | then-bad_k-via-then-bad_k w ↦ cases.encode-size A.packet.now A.out.now A.k A.c (told c.bad_k.ensures w.if-bad_k.true)
      | then-bad_k-via-else-bad_k+then-over_place w ↦
          cases.encode-place A.packet.now A.out.now A.k A.c (told c.bad_k.ensures w.if-bad_k.false) (told w.over_place.ensures w.if-over_place.true)
      | then-bad_k-via-else-bad_k+else-over_place+then-misfit w ↦
          cases.encode-fit A.packet.now A.out.now A.k A.c (told c.bad_k.ensures w.if-bad_k.false)
          (told w.over_place.ensures w.if-over_place.false)
          (told w.misfit.ensures w.if-misfit.true)
    ]

pub over_place-requires : goal.over_place-requires
over_place-requires c = k_most c.args.k (told c.bad_k.ensures c.if-bad_k.false)

pub misfit-requires : goal.misfit-requires
misfit-requires c =
    let A = c.args in
    omega (arith, cases.within-place A.k A.c (told c.over_place.ensures c.if-over_place.false))

pub overflow_add-all : goal.overflow_add-all
overflow_add-all c =
    let A = c.args in
    omega (arith, k_most A.k (told c.bad_k.ensures c.if-bad_k.false))

pub overflow_mul-all : goal.overflow_mul-all
overflow_mul-all c =
    let A = c.args in
    omega (arith, cases.within-place A.k A.c (told c.over_place.ensures c.if-over_place.false))

pub returns-then-out-all : goal.returns-then-out-all
returns-then-out-all c =
    let A = c.args in
    let E = c in
    let fine = told c.bad_k.ensures c.if-bad_k.false in
    cases.encode_room A.packet.now A.out.now A.k A.c fine (told c.over_place.ensures c.if-over_place.false) (told c.misfit.ensures c.if-misfit.false) c.if-out-all.true

pub slice_bounds-write_block-end-2 : goal.slice_bounds-write_block-end-2
slice_bounds-write_block-end-2 c =
    let A = c.args in
    sym (length-take-le (A.c * (A.k + 48)) A.out.now c.if-out-all.false)

pub write_block-requires : goal.write_block-requires
write_block-requires c =
    let A = c.args in
    let E = c in
    let within = cases.within-place A.k A.c (told c.over_place.ensures c.if-over_place.false) in
    let short = k_most A.k (told c.bad_k.ensures c.if-bad_k.false) in
    let fits = (fits_in_last (length A.packet.now) A.k A.c (told c.misfit.ensures c.if-misfit.false)).1 in
    (short, fits, omega (arith, within), length-take-le (A.c * (A.k + 48)) A.out.now c.if-out-all.false)

pub returns : goal.returns
returns c =
    let A = c.args in
    let E = c in
    let packet = A.packet.now in
    let n = A.c * (A.k + 48) in
    let size = cases.length_whole packet A.k A.c (fits_in_last (length packet) A.k A.c (told c.misfit.ensures c.if-misfit.false)).1 in
    cases.encode_done packet A.out.now A.k A.c (told c.bad_k.ensures c.if-bad_k.false) (told c.over_place.ensures c.if-over_place.false) (told c.misfit.ensures c.if-misfit.false) _
    c.if-out-all.false
    (cases.block-lent A.out.now _ _ n size c.write_block.ensures)
