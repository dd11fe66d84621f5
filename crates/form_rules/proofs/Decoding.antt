-- From the cells of a place to the packet that is proposed. Assumes nothing.
use mathlib.Core.Path.{◌≡◌, refl, sym, ap, ◌∙◌, subst}
use mathlib.Core.Bool.{Bool, true, false}
use mathlib.Core.List.{List, [], ◌∷◌}
use Prim.Native.Nat.{ℕ, ◌+◌, ◌-◌, ◌*◌, ◌≤◌, ◌<◌}
use native.Mathlib.Nat.{mul-le-mul_right}
use native.Mathlib.Omega.{arith}
use lib.ListN.{length, get_or, take, drop, replicate, length-drop, get_or-append}
use lib.Seq.{take_at, take-append-le, drop-append-le}
use Rattle.base_rules.specs.Answer.{Answer, granted, outcome}
use Rattle.base_rules.specs.Bounds.{place, parity}
use Rattle.base_rules.specs.Bytes.{splice}
use Rattle.base_rules.specs.Tests.{bit}
use Rattle.base_rules.specs.Written as written
use Rattle.std.specs.Prelude.{Result, Ok, Err}
use Rattle.base_rules.specs.Refusal as refusals
use Rattle.base_rules.specs.declared.Refusal.{Refusal}
use Rattle.base_rules.proofs.Logic.{clash}
use Rattle.base_rules.proofs.Splice.{splice-length}
use Rattle.cut_rules.specs.Cells.{cells_of}
use Rattle.cut_rules.specs.Missing.{suffice}
use Rattle.cut_rules.specs.Sizes.{received_c}
use Rattle.weave_rules.specs.Calls.{not_kept, enough_of, deinterleave_of}
use Rattle.weave_rules.specs.Calls as held-calls
use Rattle.weave_rules.specs.declared.Held.{Held}
use Rattle.weave_rules.specs.declared.Held.TheVariants as helds
use Rattle.weave_rules.proofs.CallCases.{cells_done}
use Rattle.code_rules.specs.Calls.{number_of, BlockFilled}
use Rattle.code_rules.specs.declared.Filled.{Filled}
use Rattle.code_rules.specs.declared.Filled.TheVariants.{Done, Nothing, NotEnough}
use Rattle.code_rules.proofs.CellLaws.{standing}
use Rattle.places_rules.specs.declared.Place.{Place}
use Rattle.places_rules.specs.Faults.{bad_place}
use Rattle.form_rules.specs.Agree.{enough_in, lost_in, Fills, Agrees}
use Rattle.form_rules.specs.inner.Proposals.{Ready, Proposal, data_of}
use Rattle.std.specs.Prelude.{Some}
use Rattle.form_rules.proofs.Chunks.{length_data}
use Rattle.form_rules.proofs.Mending.{Laid, within, none, only, fits, padded_behind, no_chunk}
use Rattle.form_rules.proofs.Unique.{length-cells, laid_all, enough-coded}
use Rattle.form_rules.proofs.ChunkFigures as figures

-- ---- whether the fragments suffice

module _ (p : Place) (ranged : bad_place p ≡ false) (fec : p.fec ≡ true) where
  told_enough : (b : Bool) → granted (bit b ∷ []) ≡ enough_of p.kept p.count p.size p.rsk → b ≡ enough_in p
  unfolding received_c
  told_enough b e = sym (enough-coded p fec ∙ (standing p.kept p.count p.size p.rsk b e).told)

  none_enough : received_c p.count p.size p.rsk ≡ 0 → true ≡ enough_in p
  unfolding suffice
  none_enough e = sym (enough-coded p fec ∙ ap (suffice (not_kept p.kept) p.count (p.rsk + parity)) e)

  -- of a place in range with FEC, the answer Enough says that its fragments suffice
  pub suffices_yes : (h : Result Held Refusal) → h ≡ Ok helds.Enough → held-calls.number_of h ≡ enough_of p.kept p.count p.size p.rsk → true ≡ enough_in p
  unfolding held-calls.number_of held-calls.values_of refusals.told
  suffices_yes h is e = told_enough true (sym (ap held-calls.number_of is) ∙ e)

  -- of a place in range with FEC, the answer NotEnough says that its fragments do not suffice
  pub suffices_no : (h : Result Held Refusal) → h ≡ Ok helds.NotEnough → held-calls.number_of h ≡ enough_of p.kept p.count p.size p.rsk → false ≡ enough_in p
  unfolding held-calls.number_of held-calls.values_of refusals.told
  suffices_no h is e = told_enough false (sym (ap held-calls.number_of is) ∙ e)

  -- where the test refuses such a place, it has no chunk to miss a byte, and its fragments suffice
  pub suffices_refused : (h : Result Held Refusal) (n : Refusal) → h ≡ Err n → held-calls.number_of h ≡ enough_of p.kept p.count p.size p.rsk
      → true ≡ enough_in p
  unfolding held-calls.number_of refusals.told enough_of
  suffices_refused h n is e =
      none_enough (figures.enough-refused (figures.figures p ranged fec) (refusals.number n) _ (sym (ap held-calls.number_of is) ∙ e))

-- ---- the cells

module _ {f s k z : ℕ} (g : figures.Figures f s k z) (some : k + parity ≤ f * s) (held blank cells : List ℕ) (a : Answer)
    (whole : place ≤ length held)
    (room : place ≤ length blank) (put : outcome a cells ≡ deinterleave_of held f s blank) where
  is_laid : cells ≡ splice blank 0 (cells_of held f s)
  is_laid =
      let done : outcome (written.number_of (Ok tt)) (splice blank 0 (cells_of held f s)) ≡ deinterleave_of held f s blank =
      cells_done held blank f s (figures.counted g some) (figures.in_place g some) (omega (arith, g.placed)) (splice blank 0 (cells_of held f s))
      (omega (arith, g.placed)) refl in
      cc

  laid_cells : Laid f s held cells
  unfolding splice
  laid_cells q h =
      ap (λ (l : List ℕ). get_or l q 0) is_laid
      ∙ get_or-append (cells_of held f s) (drop (0 + length (cells_of held f s)) blank) 0 q (omega (arith, length-cells held f s))
      ∙ laid_all held f s q h

-- the chunks that a place's figures make
abbrev pub chunks_in : Place → ℕ
chunks_in p = received_c p.count p.size p.rsk

-- ---- what is known once the cells are filled in

-- a place with FEC, ready to be formed: its cells as deinterleaved, and how they were filled in
pub record Decoding (p : Place) (held cells after : List ℕ) (r : Result Filled Refusal) : Type 0 where
  pub ready : Ready p held
  pub fec : p.fec ≡ true
  pub size : length cells ≡ place
  pub laid : p.rsk + parity ≤ p.count * p.size → Laid p.count p.size held cells
  pub filled : BlockFilled p.kept p.count p.size p.rsk cells after r

-- cells that were deinterleaved from a place's bytes and then filled in are such a decoding
pub decoding : {p : Place} {held cells after : List ℕ} {r : Result Filled Refusal} (blank : List ℕ) (a : Answer) (q : Result Filled Refusal) → Ready p held → p.fec ≡ true
    → length blank ≡ place → length cells ≡ place → outcome a cells ≡ deinterleave_of held p.count p.size blank
    → BlockFilled p.kept p.count p.size p.rsk cells after q → q ≡ r → Decoding p held cells after r
decoding {p} {held} {cells} {after} blank a q ready fec room size put filled is =
    record {
      ready = ready;
      fec = fec;
      size = size;
      laid = λ some.
          laid_cells (figures.figures p ready.ranged fec) some held blank cells a ready.room (omega arith) put;
      filled = subst (BlockFilled p.kept p.count p.size p.rsk cells after) is filled;
    }

module _ {p : Place} {held cells after : List ℕ} {r : Result Filled Refusal} (d : Decoding p held cells after r) where
  -- the figures of a place that is decoded are within their bounds
  pub figured : figures.Figures p.count p.size p.rsk p.rsz
  figured = figures.figures p d.ready.ranged d.fec

  enough-kept : suffice (not_kept p.kept) p.count (p.rsk + parity) (received_c p.count p.size p.rsk) ≡ true
  enough-kept = sym (enough-coded p d.fec) ∙ d.ready.suffice

  -- the cells hold all fragments
  pub cells_room : p.count * p.size ≤ length cells
  cells_room = omega (arith, d.size, figured.placed)

-- ---- no packet agrees

-- where one chunk has no filling,
pub nothing_agrees : {p : Place} {held cells after : List ℕ} → Decoding p held cells after (Ok Nothing) → (P : List ℕ) → Agrees p held P → ⊥
unfolding number_of refusals.told
nothing_agrees {p} {held} {cells} {after} d P agrees =
    let g = figured d in
    let some : p.rsk + parity ≤ p.count * p.size = figures.fill-granted g _ _ _ d.filled.number in
    none p.count p.size p.rsk p.rsz p.kept held cells after (d.laid some) (cells_room d)
    (figures.some_fragments g some) g.small g.zeros d.filled.left.1 P (agrees.coded d.fec)

-- and where there is no chunk
pub refused-agrees : {p : Place} {held cells after : List ℕ} {n : Refusal} → Decoding p held cells after (Err n) → (P : List ℕ) → Agrees p held P → ⊥
unfolding number_of refusals.told
refused-agrees {p} {held} {cells} {after} {n} d P agrees =
    no_chunk p held P d.fec
    (figures.fill-refused (figured d) (refusals.number n) (length cells) _ (cells_room d) d.filled.number) agrees

-- that too few fragments are kept is ruled out
pub short_agrees : {p : Place} {held cells after : List ℕ} → Decoding p held cells after (Ok NotEnough) → (P : List ℕ) → Agrees p held P → ⊥
short_agrees d P agrees = clash (enough-kept d) d.filled.left.0

-- ---- the packet in the chunks

-- the data bytes of all chunks, and those of the packet; the zeros behind it, in a buffer that begins with them
abbrev pub data_bytes : Place → ℕ
data_bytes p = chunks_in p * p.rsk

abbrev pub packet_bytes : Place → ℕ
packet_bytes p = data_bytes p - p.rsz

abbrev pub behind : Place → List ℕ → List ℕ
behind p buffer = take (data_bytes p - packet_bytes p) (drop (packet_bytes p) buffer)

-- the parts of such a buffer
module _ (buffer bytes : List ℕ) (l n : ℕ) (long : length bytes ≡ n) (less : l ≤ n) where
  front_is : take l (splice buffer 0 bytes) ≡ take l bytes
  unfolding splice
  front_is = take-append-le l bytes (drop (0 + length bytes) buffer) (omega arith)

  part_is : take (n - l) (drop l (splice buffer 0 bytes)) ≡ drop l bytes
  unfolding splice
  part_is =
      ap (take (n - l)) (drop-append-le l bytes (drop (0 + length bytes) buffer) (omega arith))
      ∙ take_at (drop l bytes) (drop (0 + length bytes) buffer) (n - l) (length-drop l bytes ∙ ap (λ (x : ℕ). x - l) long)

module _ {p : Place} {held cells after : List ℕ} (d : Decoding p held cells after (Ok Done)) where
  some_chunk : p.rsk + parity ≤ p.count * p.size
  unfolding number_of refusals.told
  some_chunk = figures.fill-granted (figured d) _ _ _ d.filled.number

  -- the chunks stand in the cells, and their data fit a place
  pub chunks_room : (chunks_in p * (p.rsk + parity) ≤ length after) × (data_bytes p ≤ place) × (length after ≡ place)
  chunks_room =
      let inside = within p.count p.size p.rsk in
      (omega (arith, inside, cells_room d, d.filled.left.1.size), omega (arith, inside, (figured d).placed), d.filled.left.1.size ∙ d.size)

  -- the zeros are fewer than these
  pub zeros_within : p.rsz ≤ data_bytes p
  zeros_within = omega (arith, (figured d).zeros, mul-le-mul_right p.rsk (figures.some_chunk (figured d) some_chunk))

  module _ (buffer result : List ℕ) (room : length buffer ≡ place) (gathered : result ≡ splice buffer 0 (data_of after p.rsk (chunks_in p))) where
    long : length (data_of after p.rsk (chunks_in p)) ≡ data_bytes p
    long = length_data after p.rsk (chunks_in p) chunks_room.0

    front_packet : take (packet_bytes p) result ≡ take (packet_bytes p) (data_of after p.rsk (chunks_in p))
    front_packet = ap (take (packet_bytes p)) gathered ∙ front_is buffer _ (packet_bytes p) (data_bytes p) long (omega arith)

    behind_packet : behind p result ≡ drop (packet_bytes p) (data_of after p.rsk (chunks_in p))
    behind_packet = ap (behind p) gathered ∙ part_is buffer _ (packet_bytes p) (data_bytes p) long (omega arith)

    length_behind : length (behind p result) ≡ p.rsz
    length_behind = ap length behind_packet ∙ length-drop (packet_bytes p) (data_of after p.rsk (chunks_in p)) ∙ omega (arith, long, zeros_within)

    -- the buffer keeps its length
    pub result_room : length result ≡ place
    result_room = ap length gathered ∙ splice-length buffer 0 (data_of after p.rsk (chunks_in p)) (omega (arith, long, chunks_room.1)) ∙ room

    -- where zeros stand behind it the packet is the one that can agree,
    pub proposes : behind p result ≡ replicate (length (behind p result)) 0 → Proposal p held result (Some (packet_bytes p))
    proposes blank =
        let g = figured d in
        let some : 0 < p.count = figures.some_fragments g some_chunk in
        let zeros : drop (packet_bytes p) (data_of after p.rsk (chunks_in p)) ≡ replicate p.rsz 0 =
        sym behind_packet ∙ blank ∙ ap (λ (x : ℕ). replicate x 0) length_behind in (
          omega (arith, result_room, chunks_room.1),
          record {
            coded = λ e.
                subst (Fills p.count p.size p.rsk p.rsz (lost_in p) held) (sym front_packet)
                (fits p.count p.size p.rsk p.rsz p.kept held cells after (d.laid some_chunk) (cells_room d) some g.small g.zeros
                d.filled.left.1 zeros);
            plain = λ e. clash d.fec e;
            only = λ P agrees.
                only p.count p.size p.rsk p.rsz p.kept held cells after (d.laid some_chunk) (cells_room d) some g.small g.zeros
                (enough-kept d) d.filled.left.1 P (agrees.coded d.fec)
                ∙ sym front_packet;
          },
        )

    -- and where they do not, none agrees
    pub damaged : (behind p result ≡ replicate (length (behind p result)) 0 → ⊥) → (P : List ℕ) → Agrees p held P → ⊥
    damaged not-blank P agrees =
        let g = figured d in
        not-blank
        (behind_packet
        ∙ padded_behind p.count p.size p.rsk p.rsz p.kept held cells after (d.laid some_chunk) (cells_room d)
        (figures.some_fragments g some_chunk) g.small g.zeros d.filled.left.1 (enough-kept d) P (agrees.coded d.fec)
        (figures.some_chunk g some_chunk)
        ∙ ap (λ (x : ℕ). replicate x 0) (sym length_behind))
