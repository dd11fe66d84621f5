-- With FEC: every byte that the packet's place keeps is the byte of the packet's block in its cell. Assumes nothing.
use mathlib.Core.Path.{◌≡◌, sym, ap, ap₂, ◌∙◌, subst}
use mathlib.Core.Bool.{Bool, true, false, not, ◌&&◌}
use mathlib.Core.List.{List}
use Prim.Native.Nat.{ℕ, ◌+◌, ◌-◌, ◌*◌, ◌%◌, ◌<◌}
use native.Mathlib.Nat.{mod-lt, div-mul-le_self}
use native.Mathlib.Omega.{arith}
use borrow.Author.Tests.{not-false}
use lib.Dec.{leb}
use lib.ListN.{length, get_or, take, drop}
use Rattle.base_rules.specs.Bounds.{parity}
use Rattle.base_rules.specs.Bytes.{Bytes, part_of}
use Rattle.cut_rules.specs.declared.Settings.{Settings}
use Rattle.cut_rules.specs.Block.{padded, block_of}
use Rattle.cut_rules.specs.Cells.{fragment_of, cell_of}
use Rattle.cut_rules.specs.Missing.{gone}
use Rattle.cut_rules.specs.Sizes as cut
use Rattle.cut_rules.proofs.Proved.{c4}
use Rattle.codeword.specs.Code.{parity_of}
use Rattle.form_rules.specs.Agree.{lost_in, Fills}
use Rattle.places_rules.specs.declared.Place.{Place}
use Rattle.receiver_rules.specs.Promise.{bytes_at}
use Rattle.sender_rules.specs.Calls.{packet_fault}
use Rattle.sender_rules.specs.Fragments.{block_for}
use Rattle.sender_rules.proofs.FragmentLengths.{payload_fec, size-fec, sure, f_some}
use Rattle.sender_rules.proofs.PlannedFigures.{with_fec_lem}
use Rattle.link.specs.Demand.{count}
use Rattle.link.proofs.Enough.{size_of, rsk_of, rsz_of, is_c}
use Rattle.link.proofs.Own.{is_last_of, Full, SizeKnown, stands, offset_not}

module _ (g : Settings) (n : ℕ) (packet : List ℕ) (passed : packet_fault g packet ≡ 0) (bytes : Bytes packet) (fec : g.fec ≡ true) where
  abbrev chunks : ℕ
  chunks = cut.received_c (count g packet) (size_of g packet) (rsk_of g packet)

  -- the receiver's block is the sender's
  block_is : block_for packet ≡ block_of parity_of (padded packet (rsz_of g packet)) (rsk_of g packet) chunks
  unfolding block_for
  block_is =
      let l : ℕ = length packet in
      sym
      (ap (λ (x : ℕ). block_of parity_of (padded packet x) (rsk_of g packet) chunks) (with_fec_lem g (cut.z l) fec)
      ∙ ap₂ (block_of parity_of (padded packet (cut.z l))) (with_fec_lem g (cut.k l) fec) (is_c g packet passed fec))

  size_is : length packet ≡ chunks * rsk_of g packet - rsz_of g packet
  size_is =
      let l : ℕ = length packet in
      let cut_back : l ≡ cut.c l * cut.k l - cut.z l = omega (arith, (sure g packet passed).chunks) in
      cut_back
      ∙ sym (ap₂ (λ (x y : ℕ). x - y) (ap₂ (λ (x y : ℕ). x * y) (is_c g packet passed fec) (with_fec_lem g (cut.k l) fec)) (with_fec_lem g (cut.z l) fec))

  no_last : (j : ℕ) → is_last_of g packet j ≡ false
  no_last j = ap (λ (v : Bool). not v && leb (count g packet) (j + 1)) fec

  module _ (came : ℕ → Bool) (i : ℕ) (p : Place) (b : List ℕ) (full : Full g n packet came i p b) (sized : SizeKnown g packet p) where
    here : (j : ℕ) → j < count g packet → came j ≡ true
        → part_of (bytes_at b i) (size_of g packet) j ≡ fragment_of (block_for packet) (count g packet) (size_of g packet) j
    unfolding part_of
    here j h e =
        ap₂ (λ (x y : ℕ). take x (drop y (bytes_at b i))) (sym (size-fec g packet fec j)) (sym (offset_not g packet passed j (no_last j)))
        ∙ stands g n packet came i p b full j h e ∙ payload_fec g packet fec j

    cells : (q : ℕ) → q < chunks * (rsk_of g packet + parity) → gone (lost_in p) (count g packet) q ≡ false
        → cell_of (bytes_at b i) (count g packet) (size_of g packet) q ≡ get_or (block_for packet) q 0
    unfolding cut.received_c
    cells q h e =
        let some : 0 < count g packet = f_some g packet passed in
        let below : q % count g packet < count g packet = mod-lt q some in
        let kept : get_or p.kept (q % count g packet) false ≡ true = not-false _ e in
        (c4.joined (block_for packet) (count g packet) (size_of g packet) q some
        (omega (arith, div-mul-le_self (count g packet * size_of g packet) (rsk_of g packet + parity)))).held (bytes_at b i)
        (here (q % count g packet) below (sym (full.kept (q % count g packet) below) ∙ kept))

    fills : Fills (count g packet) (size_of g packet) (rsk_of g packet) (rsz_of g packet) (lost_in p) (bytes_at b i) packet
    fills = record { size = size_is; bytes = bytes; cells = λ q h e. cells q h e ∙ ap (λ (l : List ℕ). get_or l q 0) block_is }

    -- by the figures of the place, which are those of the packet
    pub fills_place : Fills p.count p.size p.rsk p.rsz (lost_in p) (bytes_at b i) packet
    unfolding SizeKnown
    fills_place =
        subst (λ (x : ℕ). Fills x p.size p.rsk p.rsz (lost_in p) (bytes_at b i) packet) (sym full.mine.count)
        (subst (λ (x : ℕ). Fills (count g packet) x p.rsk p.rsz (lost_in p) (bytes_at b i) packet) (sym (sized fec))
        (subst (λ (x : ℕ). Fills (count g packet) (size_of g packet) x p.rsz (lost_in p) (bytes_at b i) packet) (sym full.mine.rsk)
        (subst (λ (x : ℕ). Fills (count g packet) (size_of g packet) (rsk_of g packet) x (lost_in p) (bytes_at b i) packet)
        (sym full.mine.rsz) fills)))
