-- What stands in a packet that was written: each field is read back. Assumes nothing.
use mathlib.Core.Path.{◌≡◌, refl, sym, ap, ap₂, ◌∙◌}
use mathlib.Core.Bool.{Bool, true, false}
use mathlib.Core.List.{List, [], ◌∷◌, ◌++◌, append-nil}
use Prim.Native.Nat.{ℕ, zero, suc, ◌+◌, ◌-◌, ◌/◌, ◌%◌, ◌≤◌, ◌<◌}
use native.Mathlib.Nat.{mod-lt, zero-lt-suc}
use native.Mathlib.Omega.{arith}
use lib.Dec.{eqb, lit<}
use lib.ListN.{length, take, drop, length-append}
use lib.Seq.{take_at, drop_at}
use Rattle.base_rules.specs.Bounds.{least_l}
use Rattle.base_rules.specs.Bytes.{Bytes, number_at, bytes_of}
use Rattle.base_rules.proofs.ByteLaws.{bytes-append}
use Rattle.base_rules.proofs.Numbers.{length-bytes, back_at}
use Rattle.crc_rules.proofs.Over.{word_lt}
use Rattle.af_rules.specs.Packet.{sync, packet_type, major, minor, header_bytes, crc_bytes, most_payload, sync_of, len_of, seq_of, ar_of, pt_of, cf_of}
use Rattle.af_rules.specs.Packet.{major_of, minor_of, payload_of, covered_of, crc_of, ar_with, header_of, crc_for, closed, packet_of}
use Rattle.af_rules.proofs.Checks.{Passing}
use Rattle.af_rules.proofs.Wraps.{ar_lt, length_header}

-- the bytes of a number are bytes
pub bytes-bytes : (w x : ℕ) → Bytes (bytes_of w x)
unfolding bytes_of
bytes-bytes zero x = tt
bytes-bytes (suc w) x = bytes-append (bytes_of w (x / 256)) (x % 256 ∷ []) (bytes-bytes w (x / 256)) (mod-lt x (zero-lt-suc 255), tt)

-- bytes with those of a number written in front are bytes again
pub bytes-then : (w x : ℕ) (rest : List ℕ) → Bytes rest → Bytes (bytes_of w x ++ rest)
bytes-then w x rest h = bytes-append (bytes_of w x) rest (bytes-bytes w x) h

-- ---- CRC and AR

crc_lt : (cf : Bool) (covered : List ℕ) → crc_for cf covered < 65536
unfolding crc_for
crc_lt true covered = word_lt covered
crc_lt false covered = lit< tt

ar_parts : (cf : Bool) → (eqb (ar_with cf / 128) 1 ≡ cf) × (ar_with cf / 16 % 8 ≡ major) × (ar_with cf % 16 ≡ minor)
unfolding ar_with
ar_parts true = (refl, refl, refl)
ar_parts false = (refl, refl, refl)

-- ---- header and payload in front, the CRC behind

module _ (cf : Bool) (front : List ℕ) where
  pub length-closed : length (closed cf front) ≡ length front + crc_bytes
  unfolding closed
  length-closed = length-append front (bytes_of crc_bytes (crc_for cf front))
      ∙ ap (λ (n : ℕ). length front + n) (length-bytes crc_bytes (crc_for cf front))

  at_end : length (closed cf front) - crc_bytes ≡ length front
  at_end = omega (arith, length-closed)

  pub front_back : covered_of (closed cf front) ≡ front
  unfolding covered_of closed
  front_back = take_at front (bytes_of crc_bytes (crc_for cf front)) _ (sym at_end)

  pub crc_back : crc_of (closed cf front) ≡ crc_for cf front
  unfolding closed
  crc_back =
      ap (number_at crc_bytes (closed cf front)) at_end
      ∙ back_at crc_bytes (crc_for cf front) (length front) (closed cf front) [] (drop_at front _ (length front) refl ∙ sym (append-nil _))
      (crc_lt cf front)

-- ---- the packet

module _ (seq : ℕ) (cf : Bool) (payload : List ℕ) where
  abbrev front : List ℕ
  front = header_of seq cf (length payload) ++ payload

  -- what follows each field
  abbrev behind : List ℕ
  behind = payload ++ bytes_of crc_bytes (crc_for cf front)

  abbrev from_pt : List ℕ
  from_pt = bytes_of 1 packet_type ++ behind

  abbrev from_ar : List ℕ
  from_ar = bytes_of 1 (ar_with cf) ++ from_pt

  abbrev from_seq : List ℕ
  from_seq = bytes_of 2 seq ++ from_ar

  abbrev from_len : List ℕ
  from_len = bytes_of 4 (length payload) ++ from_seq

  -- a packet has 12 bytes more than its payload
  pub length-packet : length (packet_of seq cf payload) ≡ length payload + least_l
  unfolding packet_of
  length-packet = length-closed cf front ∙ omega (
    arith,
    length-append (header_of seq cf (length payload)) payload,
    length_header seq cf (length payload),
  )

  -- a payload of bytes makes a packet of bytes, whatever SEQ and CF are
  pub bytes-packet : Bytes payload → Bytes (packet_of seq cf payload)
  unfolding packet_of closed header_of bytes_of
  bytes-packet h =
      bytes-then 2 sync from_len
      (bytes-then 4 (length payload) from_seq
      (bytes-then 2 seq from_ar
      (bytes-then 1 (ar_with cf) from_pt
      (bytes-then 1 packet_type behind (bytes-append payload (bytes_of crc_bytes (crc_for cf front)) h (bytes-bytes crc_bytes (crc_for cf front)))))))

  sync_back : sync_of (packet_of seq cf payload) ≡ sync
  unfolding packet_of closed header_of bytes_of
  sync_back = back_at 2 sync 0 (packet_of seq cf payload) from_len refl (lit< tt)

  -- of a payload of at most 8,180 bytes, LEN reads back as its length
  pub len_back : length payload ≤ most_payload → len_of (packet_of seq cf payload) ≡ length payload
  unfolding packet_of closed header_of bytes_of
  len_back h = back_at 4 (length payload) 2 (packet_of seq cf payload) from_seq refl (omega arith)

  -- a SEQ that fits two bytes reads back as it was given
  pub seq_back : seq < 65536 → seq_of (packet_of seq cf payload) ≡ seq
  unfolding packet_of closed header_of bytes_of
  seq_back h = back_at 2 seq 6 (packet_of seq cf payload) from_ar refl h

  ar_back : ar_of (packet_of seq cf payload) ≡ ar_with cf
  unfolding packet_of closed header_of bytes_of
  ar_back = back_at 1 (ar_with cf) 8 (packet_of seq cf payload) from_pt refl (ar_lt cf)

  pt_back : pt_of (packet_of seq cf payload) ≡ packet_type
  unfolding packet_of closed header_of bytes_of
  pt_back = back_at 1 packet_type 9 (packet_of seq cf payload) behind refl (lit< tt)

  -- CF reads back as it was chosen
  pub cf_back : cf_of (packet_of seq cf payload) ≡ cf
  cf_back = ap (λ (x : ℕ). eqb (x / 128) 1) ar_back ∙ (ar_parts cf).0

  major_back : major_of (packet_of seq cf payload) ≡ major
  major_back = ap (λ (x : ℕ). x / 16 % 8) ar_back ∙ (ar_parts cf).1

  -- the minor revision reads back as 0, the one that is written
  pub minor_back : minor_of (packet_of seq cf payload) ≡ minor
  minor_back = ap (λ (x : ℕ). x % 16) ar_back ∙ (ar_parts cf).2

  behind_header : drop header_bytes (packet_of seq cf payload) ≡ behind
  unfolding packet_of closed header_of bytes_of
  behind_header = refl

  -- the payload reads back byte for byte
  pub payload_back : payload_of (packet_of seq cf payload) ≡ payload
  unfolding payload_of
  payload_back =
      let n : ℕ = length (packet_of seq cf payload) - least_l in
      ap (take n) behind_header ∙ take_at payload (bytes_of crc_bytes (crc_for cf front)) n (omega (arith, length-packet))

  summed : crc_of (packet_of seq cf payload) ≡ crc_for (cf_of (packet_of seq cf payload)) (covered_of (packet_of seq cf payload))
  unfolding packet_of
  summed = crc_back cf front ∙ ap₂ crc_for (sym cf_back) (sym (front_back cf front))

  -- so it passes
  pub packet_passes : length payload ≤ most_payload → Passing (packet_of seq cf payload)
  packet_passes few =
      record {
        long = omega (arith, length-packet);
        synced = sync_back;
        sized = omega (arith, length-packet, len_back few);
        most = omega (arith, length-packet);
        revised = major_back;
        typed = pt_back;
        summed = summed;
      }
