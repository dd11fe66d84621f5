-- There are runs, for any inputs: some reception fits the promise of each call; and what the sender writes are bytes. Assumes nothing.
use mathlib.Core.Path.{refl, ap}
use mathlib.Core.List.{List, [], ◌∷◌, ◌++◌}
use Prim.Native.Nat.{ℕ, zero, suc, ◌+◌, ◌*◌, ◌<◌}
use lib.ListN.{length, get_or, take, drop}
use Rattle.std.specs.Prelude.{Option, Some, None}
use Rattle.base_rules.specs.Bytes.{Bytes, bytes_of, part_of}
use Rattle.base_rules.specs.Table.{table}
use Rattle.base_rules.proofs.ByteLaws.{bytes_at_lem, bytes-append, bytes_take, bytes_drop, bytes_zeros}
use Rattle.base_rules.proofs.Logic.{either}
use Rattle.af_rules.proofs.ReadBack.{bytes-bytes, bytes-then}
use Rattle.codeword.specs.Code.{parity_of}
use Rattle.codeword.proofs.Encoder.{bytes-parity}
use Rattle.cut_rules.specs.declared.Address.{Address}
use Rattle.cut_rules.specs.declared.Settings.{Settings}
use Rattle.cut_rules.specs.Block as block
use Rattle.cut_rules.specs.Cells.{fragment_of}
use Rattle.cut_rules.specs.Sizes as cut
use Rattle.header_rules.specs.declared.Header.{Header}
use Rattle.header_rules.specs.Header.{sync, flags_of, fec_part, address_part, front_of, body_of, header_bytes}
use Rattle.header_rules.specs.Claims.{Written}
use Rattle.receiver_rules.proofs.Proved.{some_reception}
use Rattle.sender_rules.specs.Fragments.{block_for, payload_for, header_for, fragment_for}
use Rattle.sender_rules.proofs.FragmentLengths.{payload_fec, payload_plain}
use Rattle.sender_rules.proofs.Headers.{header_written}
use Rattle.link.specs.Run.{Call, after, start, next, Input, Lawful, SomeRun}
use Rattle.link.specs.Demand.{Takes, count}

-- from any state there is a run with just these inputs, if they are bytes and lend full room
pub some_run : SomeRun
unfolding Lawful
some_run s [] lawful = ([], s, refl, start)
some_run s (i ∷ is) lawful =
    let before = some_run s is lawful.2 in
    let y = some_reception i.own before.1 i.datagram i.lent in
    let e : Call = record { own = i.own; datagram = i.datagram; lent = i.lent; left = y.0 } in (
      e ∷ before.0,
      after e,
      ap (λ (l : List Input). i ∷ l) before.2,
      next e before.3 (record { room = lawful.0; bytes = lawful.1; meets = y.1 }),
    )

-- ---- the bytes of a fragment

bytes-fec : (h : Header) → Written h → Bytes (fec_part h)
unfolding fec_part
bytes-fec h w = either h.fec (λ e. rw e (w.rsk, (w.rsz, tt))) (λ e. rw e tt)

bytes-address : (a : Option Address) → Bytes (address_part a)
unfolding address_part
bytes-address None = tt
bytes-address (Some a) = bytes-then 2 a.source _ (bytes-bytes 2 a.dest)

module _ (h : Header) (w : Written h) where
  bytes_front : Bytes (front_of h)
  unfolding front_of
  bytes_front =
      let flags : List ℕ = bytes_of 2 (flags_of h) in
      let counts : List ℕ = bytes_of 3 h.count ++ flags in
      let indices : List ℕ = bytes_of 3 h.index ++ counts in
      bytes-then 2 sync (bytes_of 2 h.number ++ indices)
      (bytes-then 2 h.number indices (bytes-then 3 h.index counts (bytes-then 3 h.count flags (bytes-bytes 2 (flags_of h)))))

  bytes_body : Bytes (body_of h)
  unfolding body_of
  bytes_body = bytes-append (front_of h) _ bytes_front (bytes-append (fec_part h) _ (bytes-fec h w) (bytes-address h.address))

  bytes_header : Bytes (header_bytes h)
  unfolding header_bytes
  bytes_header = bytes-append (body_of h) _ bytes_body (bytes-bytes 2 _)

bytes-table : (rule : ℕ → ℕ) → ((i : ℕ) → rule i < 256) → (a n : ℕ) → Bytes (table rule a n)
unfolding table
bytes-table rule small a zero = tt
bytes-table rule small a (suc n) = (small a, bytes-table rule small (suc a) n)

bytes-block : (xs : List ℕ) (k c : ℕ) → Bytes xs → Bytes (block.block_of parity_of xs k c)
unfolding block.block_of block.with_parity
bytes-block xs k zero b = tt
bytes-block xs k (suc c) b =
    bytes-append (block.with_parity parity_of (take k xs)) _
    (bytes-append (take k xs) _ (bytes_take k xs b) (bytes-parity (take k xs)))
    (bytes-block (drop k xs) k c (bytes_drop k xs b))

module _ (g : Settings) (packet : List ℕ) (b : Bytes packet) where
  bytes-block_for : Bytes (block_for packet)
  unfolding block_for block.padded
  bytes-block_for = bytes-block _ _ _ (bytes-append packet _ b (bytes_zeros (cut.z (length packet))))

  bytes_payload : (i : ℕ) → Bytes (payload_for g packet i)
  unfolding fragment_of part_of
  bytes_payload i =
      either g.fec
      (λ e.
      rw (payload_fec g packet e i)
      (bytes-table (λ t. get_or (block_for packet) (i + cut.f g (length packet) * t) 0) (λ t. bytes_at_lem (block_for packet) bytes-block_for _) 0
      (cut.s g (length packet))))
      (λ e. rw (payload_plain g packet e i) (bytes_take (cut.s g (length packet)) (drop (i * cut.s g (length packet)) packet)
      (bytes_drop (i * cut.s g (length packet)) packet b)))

-- each fragment of a packet that the sender takes is bytes
pub bytes-fragment : (g : Settings) (n : ℕ) (packet : List ℕ) → Takes g n packet → (i : ℕ) → i < count g packet → Bytes (fragment_for g n packet i)
unfolding fragment_for
bytes-fragment g n packet takes i below =
    bytes-append (header_bytes (header_for g n packet i)) _
    (bytes_header (header_for g n packet i) (header_written g n packet i takes.passed below takes.number takes.address))
    (bytes_payload g packet takes.bytes i)
