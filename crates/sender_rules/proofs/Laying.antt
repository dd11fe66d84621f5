-- What is laid down piece by piece: the block, a payload, a fragment, one fragment behind another. Assumes nothing.
use mathlib.Core.Path.{◌≡◌, refl, sym, ap, ap₂, ◌∙◌}
use mathlib.Core.Bool.{true, false}
use mathlib.Core.List.{List, ◌++◌, append-nil}
use Prim.Native.Nat.{ℕ, ◌+◌, ◌-◌, ◌*◌, ◌≤◌, ◌<◌}
use native.Mathlib.Omega.{arith}
use borrow.Author.Tests.{le-ltb, lt-leb, ne_eqb}
use lib.ListN.{length, take, drop, length-take, length-drop, drop_of_length-le}
use lib.Seq.{length-take-le, take_all, take-take, take-length, drop-drop}
use Rattle.base_rules.specs.Answer.{Answer, granted, outcome, settled}
use Rattle.base_rules.specs.Bounds.{most_f, bad_k, place, parity}
use Rattle.base_rules.specs.Bytes.{splice, part_of}
use Rattle.base_rules.specs.Written.{put_fault, put_of}
use Rattle.base_rules.proofs.Answers.{writes}
use Rattle.base_rules.proofs.ChunkSize.{k_fits}
use Rattle.base_rules.proofs.Firsts.{skip, none_due}
use Rattle.base_rules.proofs.Splice.{splice-length, splice_next, splice_start}
use Rattle.cut_rules.specs.Cells.{fragment_of}
use Rattle.cut_rules.specs.Sizes.{c, k, z, n, L, f, s}
use Rattle.cut_rules.specs.declared.Settings.{Settings}
use Rattle.cut_rules.specs.declared.Figures.{Figures}
use Rattle.cut_rules.proofs.ChunkSizes.{c_some}
use Rattle.cut_rules.proofs.PlanCases.{L-fec}
use Rattle.code_rules.specs.Calls.{over_place, misfits, encode_fault, encode_call}
use Rattle.code_rules.proofs.CallCases.{length_whole}
use Rattle.weave_rules.specs.Calls.{bad_count, too_much, interleave_fault, interleave_of}
use Rattle.weave_rules.proofs.CallCases.{fits_cells}
use Rattle.header_rules.specs.Header.{header_bytes, write_call}
use Rattle.header_rules.specs.declared.Header.{Header}
use Rattle.sender_rules.specs.Fragments.{block_for, payload_for, header_for, fragment_for}
use Rattle.sender_rules.specs.inner.Parts.{Figured}
use Rattle.sender_rules.proofs.Checks.{in_bounds}
use Rattle.sender_rules.proofs.FragmentLengths.{header_size, fragment-size, payload_fec, payload_plain, size-fec, sure, f_some}
use Rattle.sender_rules.proofs.PlannedFigures.{is_h, is_f, is_s, c_fec, k-fec}

-- ---- writing

-- a call that refuses nothing has written
written_is : (fault : ℕ) (values written before after : List ℕ) (a : Answer) → 0 ≡ fault → outcome a after ≡ settled fault values written before
    → after ≡ written
written_is fault values written before after a none e =
    let done : outcome (granted values) written ≡ settled fault values written before = writes fault values written before written none refl in
    cc

-- what was written at the front of a part that was lent from `at` on
pub part_lent : (d w y : List ℕ) (at : ℕ) → at + length w ≤ length d → y ≡ splice (take (length d - at) (drop at d)) 0 w
    → take at d ++ (y ++ drop (length d - at) (drop at d)) ≡ splice d at w
unfolding splice
part_lent d w y at fits e =
    let k : ℕ = length d - at in
    let short : length (drop at d) ≤ k = omega (arith, length-drop at d) in
    let behind : at + (0 + length w) ≡ at + length w = omega arith in
    let rest : drop (0 + length w) (drop at d) ≡ drop (at + length w) d = drop-drop (0 + length w) at d ∙ ap (λ (x : ℕ). drop x d) behind in
    ap₂ (λ (x z : List ℕ). take at d ++ (x ++ z)) (e ∙ ap (λ (x : List ℕ). w ++ drop (0 + length w) x) (take_all k (drop at d) short))
    (drop_of_length-le (drop at d) short)
    ∙ ap (λ (x : List ℕ). take at d ++ x) (append-nil (w ++ drop (0 + length w) (drop at d)) ∙ ap (λ (x : List ℕ). w ++ x) rest)

-- such a part is as long as what stands behind `at`
pub length-lent : (d : List ℕ) (at : ℕ) → length (take (length d - at) (drop at d)) ≡ length d - at
length-lent d at = length-take-le (length d - at) (drop at d) (omega (arith, length-drop at d))

-- ---- the block

module _ (g : Settings) (packet : List ℕ) (p : Figures) (d : Figured g packet p) where
  size_fine : bad_k (k (length packet)) ≡ false
  size_fine =
      let bound = sure g packet d.passed in
      k_fits (k (length packet)) (λ (e : k (length packet) ≡ 0). omega (arith, bound.k_least)) bound.k_most

  misfit_fine : misfits (length packet) (k (length packet)) (c (length packet)) ≡ false
  unfolding misfits
  misfit_fine =
      let l : ℕ = length packet in
      let bound = sure g packet d.passed in
      let some : 0 < c l = c_some l (omega (arith, (in_bounds g packet d.passed).from)) in
      rw (
        ne_eqb (c l) 0 (λ (e : c l ≡ 0). omega arith),
        le-ltb (c l * k l) l (omega (arith, bound.chunks)),
        lt-leb (k l) (c l * k l - l) (omega (arith, bound.chunks, bound.z_less)),
      )

  module _ (fec : g.fec ≡ true) where
    block_fits : c (length packet) * (k (length packet) + parity) ≤ place
    unfolding n
    block_fits =
        let bound = sure g packet d.passed in
        omega (arith, L-fec g (length packet) fec, bound.all_held, bound.placed)

    place_fine : over_place (k (length packet)) (c (length packet)) ≡ false
    unfolding over_place
    place_fine = le-ltb place (c (length packet) * (k (length packet) + parity)) block_fits

    pub length-block : length (block_for packet) ≡ L g (length packet)
    unfolding block_for z n
    length-block =
        let bound = sure g packet d.passed in
        length_whole packet (k (length packet)) (c (length packet)) (omega (arith, bound.chunks)) ∙ sym (L-fec g (length packet) fec)

    block_spliced : (out y : List ℕ) (a : Answer) → place ≤ length out → outcome a y ≡ encode_call packet p.k p.c out
        → y ≡ splice out 0 (block_for packet)
    unfolding encode_call encode_fault block_for z
    block_spliced out y a room e =
        let cells : ℕ = c (length packet) * (k (length packet) + parity) in
        written_is _ _ _ out y a
        (skip 8 _ size_fine (skip 8 _ place_fine (skip 8 _ misfit_fine (skip 1 _ (le-ltb (length out) cells (omega (arith, block_fits))) none_due))))
        (e ∙ ap₂ (λ (x w : ℕ). encode_call packet x w out) (k-fec g packet p d fec) (c_fec g packet p d fec))

    -- with a place's bytes lent, the first L bytes that encoding leaves are the packet's block
    pub block_laid : (out y : List ℕ) (a : Answer) → place ≤ length out → outcome a y ≡ encode_call packet p.k p.c out
        → take (L g (length packet)) y ≡ block_for packet
    block_laid out y a room e =
        ap (take (L g (length packet))) (block_spliced out y a room e) ∙ splice_start out (block_for packet) (L g (length packet)) length-block

    -- ---- a payload

    count_fine : bad_count (f g (length packet)) ≡ false
    unfolding bad_count
    count_fine =
        rw (
          ne_eqb (f g (length packet)) 0 (λ (e : f g (length packet) ≡ 0). omega (arith, f_some g packet d.passed)),
          le-ltb most_f (f g (length packet)) (in_bounds g packet d.passed).few,
        )

    much_fine : too_much (f g (length packet)) (s g (length packet)) ≡ false
    unfolding too_much
    much_fine = le-ltb place (f g (length packet) * s g (length packet)) (sure g packet d.passed).placed

    -- with FEC, interleaving the block into a buffer with room lays payload i at its front
    pub interleaved : (block out y : List ℕ) (a : Answer) (i : ℕ) → block ≡ block_for packet → i < f g (length packet)
        → length (payload_for g packet i) ≤ length out → outcome a y ≡ interleave_of block p.f p.s i out
        → y ≡ splice out 0 (payload_for g packet i)
    unfolding interleave_of interleave_fault
    interleaved block out y a i is_Block less room e =
        let l : ℕ = length packet in
        let figures : interleave_of block p.f p.s i out ≡ interleave_of block (f g l) (s g l) i out = ap₂
        (λ (x w : ℕ). interleave_of block x w i out) (is_f g packet p d) (is_s g packet p d) in
        let within : length block ≤ f g l * s g l = omega (arith, ap length is_Block, length-block, (sure g packet d.passed).all_held) in
        written_is _ _ _ out y a
        (skip 7 _ count_fine (skip 8 _ much_fine (skip 8 _ (fits_cells (length block) (f g l) (s g l) within) (skip 42 _ (lt-leb (f g l) i less)
        (skip 1 _ (le-ltb (length out) (s g l) (omega (arith, size-fec g packet fec i))) none_due)))))
        (e ∙ figures)
        ∙ ap (splice out 0) (ap (λ (b : List ℕ). fragment_of b (f g l) (s g l) i) is_Block ∙ sym (payload_fec g packet fec i))

  -- without FEC the bytes from i s on, as many as the payload has
  part_same : (i size : ℕ) → g.fec ≡ false → size ≡ length (payload_for g packet i)
      → take (i * p.s + size - i * p.s) (drop (i * p.s) packet) ≡ payload_for g packet i
  unfolding part_of
  part_same i size plain is-size =
      let t : ℕ = s g (length packet) in
      let cut : List ℕ = drop (i * t) packet in
      let e : i * p.s + size - i * p.s ≡ size = omega arith in
      let long : length (take t cut) ≡ size = sym (is-size ∙ ap length (payload_plain g packet plain i)) in
      ap₂ (λ (x w : ℕ). take x (drop (i * w) packet)) e (is_s g packet p d)
      ∙ ap (λ (x : ℕ). take x cut) (sym long)
      ∙ sym (take-take (length (take t cut)) t cut (omega (arith, length-take t cut)))
      ∙ take-length (take t cut)
      ∙ sym (payload_plain g packet plain i)

  -- without FEC, copying the packet's bytes from i s on into a buffer with room lays payload i at its front
  pub copied : (out y : List ℕ) (a : Answer) (i size : ℕ) → g.fec ≡ false → size ≡ length (payload_for g packet i)
      → length (payload_for g packet i) ≤ length out → outcome a y ≡ put_of out 0 (take (i * p.s + size - i * p.s) (drop (i * p.s) packet))
      → y ≡ splice out 0 (payload_for g packet i)
  unfolding put_of put_fault
  copied out y a i size plain is-size room e =
      written_is _ _ _ out y a (skip 1 _ (le-ltb (length out) (0 + length (payload_for g packet i)) (omega arith)) none_due)
      (e ∙ ap (put_of out 0) (part_same i size plain is-size))

  -- ---- a fragment

  -- the header at the front, and the payload in the part behind it
  module _ (out x : List ℕ) (a : Answer) (head : Header) (number i : ℕ) (is-head : head ≡ header_for g number packet i)
      (room : length (fragment_for g number packet i) ≤ length out) (e : outcome a x ≡ write_call head out) where
    header_fits : length (header_bytes (header_for g number packet i)) ≤ length out
    header_fits = omega (arith, fragment-size g packet number i, header_size g packet number i)

    header_laid : x ≡ splice out 0 (header_bytes (header_for g number packet i))
    unfolding write_call
    header_laid =
        written_is _ _ _ out x a (skip 1 _ (le-ltb (length out) (length (header_bytes (header_for g number packet i))) header_fits) none_due)
        (e ∙ ap (λ (w : Header). write_call w out) is-head)

    same_room : length x ≡ length out
    same_room = ap length header_laid ∙ splice-length out 0 (header_bytes (header_for g number packet i)) (omega (arith, header_fits))

    -- the buffer with the header in it has at least h bytes
    pub behind_header : p.h ≤ length x
    behind_header = omega (arith, is_h g packet p d, same_room, fragment-size g packet number i)

    -- the part of it behind the header has room for the payload
    pub room_behind : length (payload_for g packet i) ≤ length (take (length x - p.h) (drop p.h x))
    room_behind = omega (arith, is_h g packet p d, same_room, fragment-size g packet number i, length-lent x p.h)

    -- with the payload laid into that part, the whole fragment stands at the front of the buffer
    pub fragment_laid : (y : List ℕ) → y ≡ splice (take (length x - p.h) (drop p.h x)) 0 (payload_for g packet i)
        → take p.h x ++ (y ++ drop (length x - p.h) (drop p.h x)) ≡ splice out 0 (fragment_for g number packet i)
    unfolding fragment_for
    fragment_laid y is_y =
        let payload : List ℕ = payload_for g packet i in
        part_lent x payload y p.h (omega (arith, is_h g packet p d, same_room, fragment-size g packet number i)) is_y
        ∙ ap (λ (w : List ℕ). splice w p.h payload) header_laid
        ∙ splice_next out (header_bytes (header_for g number packet i)) payload p.h (header_size g packet number i ∙ sym (is_h g packet p d))
