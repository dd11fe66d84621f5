-- At most one packet agrees with what a place holds, where that suffices: with FEC by its chunks, without it by what agreeing says. Assumes nothing.
use mathlib.Core.Path.{◌≡◌, sym, ap, ◌∙◌}
use mathlib.Core.Bool.{Bool, true, false}
use mathlib.Core.List.{List}
use Prim.Native.Nat.{ℕ, ◌+◌, ◌-◌, ◌*◌, ◌≤◌, ◌<◌}
use native.Mathlib.Nat.{zero-add}
use native.Mathlib.Omega.{arith}
use lib.ListN.{length, take}
use Rattle.base_rules.specs.Bounds.{most_k, parity}
use Rattle.base_rules.specs.Bytes.{part_of}
use Rattle.base_rules.proofs.Logic.{either}
use Rattle.base_rules.proofs.Tables.{length-table, at_table}
use Rattle.base_rules.proofs.Parts.{parts_same}
use Rattle.cut_rules.specs.Block.{padded}
use Rattle.cut_rules.specs.Cells.{cell_of, cells_of}
use Rattle.cut_rules.specs.Missing.{suffice}
use Rattle.cut_rules.specs.Sizes.{received_c}
use Rattle.weave_rules.specs.Calls.{not_kept}
use Rattle.codeword.specs.Code.{encode}
use Rattle.codeword.proofs.Encoder.{encode-keeps}
use Rattle.places_rules.specs.declared.Place.{Place}
use Rattle.form_rules.specs.Agree.{enough, enough_in, Fills}
use Rattle.form_rules.specs.Claims.{OnePacket}
use Rattle.form_rules.proofs.Mending.{Laid, from_chunks, length_data_chunk, word-agrees, word-only}

-- all cells of a place
pub length-cells : (held : List ℕ) (f s : ℕ) → length (cells_of held f s) ≡ f * s
unfolding cells_of
length-cells held f s = length-table (cell_of held f s) 0 (f * s)

-- in the list of all cells each cell of the place stands at its own index
pub laid_all : (held : List ℕ) (f s : ℕ) → Laid f s held (cells_of held f s)
unfolding cells_of
laid_all held f s q h = at_table (cell_of held f s) 0 (f * s) q h ∙ ap (cell_of held f s) (zero-add q)

module _ (f s k z : ℕ) (kept : List Bool) (held : List ℕ) (small : k ≤ most_k)
    (enough-kept : suffice (not_kept kept) f (k + parity) (received_c f s k) ≡ true)
    (P Q : List ℕ) (a : Fills f s k z (not_kept kept) held P) (b : Fills f s k z (not_kept kept) held Q) where
  same-chunk : (j : ℕ) → j < received_c f s k → part_of (padded P z) k j ≡ part_of (padded Q z) k j
  same-chunk j below =
      let cells : List ℕ = cells_of held f s in
      let room : f * s ≤ length (cells_of held f s) = omega (arith, length-cells held f s) in
      let word : encode (part_of (padded P z) k j) ≡ encode (part_of (padded Q z) k j) =
      word-only f s k z kept held cells (laid_all held f s) room small P a j below enough-kept (encode (part_of (padded Q z) k j))
      (word-agrees f s k z kept held cells (laid_all held f s) room small Q b j below) in
      sym (encode-keeps (part_of (padded P z) k j) k (length_data_chunk f s k z (not_kept kept) held P a j below))
      ∙ ap (take k) word
      ∙ encode-keeps (part_of (padded Q z) k j) k (length_data_chunk f s k z (not_kept kept) held Q b j below)

  one_filled : P ≡ Q
  one_filled =
      sym (from_chunks f s k z (not_kept kept) held P a)
      ∙ ap (take (received_c f s k * k - z)) (parts_same k (received_c f s k) (padded P z) (padded Q z) same-chunk)
      ∙ from_chunks f s k z (not_kept kept) held Q b

-- with FEC the fragments held suffice just where no chunk misses more than 48 bytes
pub enough-coded : (p : Place) → p.fec ≡ true → enough_in p ≡ suffice (not_kept p.kept) p.count (p.rsk + parity)
    (received_c p.count p.size p.rsk)
unfolding enough_in enough
enough-coded p fec = rw fec

-- where the fragments held suffice (with FEC, for k up to 207), no two packets agree with them
pub one_packet : OnePacket
one_packet p held P Q small e a b =
    either p.fec
    (λ (fec : p.fec ≡ true).
    one_filled p.count p.size p.rsk p.rsz p.kept held (small fec) (sym (enough-coded p fec) ∙ e) P Q (a.coded fec) (b.coded fec))
    (λ (plain : p.fec ≡ false). a.plain plain ∙ sym (b.plain plain))
