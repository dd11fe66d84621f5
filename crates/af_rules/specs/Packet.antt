-- The AF packet (clause 6): "AF", LEN 4 bytes, SEQ 2, AR 1, PT 1, the payload, CRC 2.
use Rattle.std.specs.Prelude.{Bool, cond, List, ◌++◌, ℕ, ◌+◌, ◌-◌, ◌*◌, ◌/◌, ◌%◌, eqb, ltb, length, take, drop}
use Rattle.std.specs.Borrow.{Bor}
use Rattle.base_rules.specs.Bounds.{least_l, most_l}
use Rattle.base_rules.specs.Bytes.{number_at, bytes_of}
use Rattle.base_rules.specs.Tests.{bit}
use Rattle.crc_rules.specs.Crc.{word_of}

-- clause 6.1: "AF" in ASCII, 4146 hex
abbrev pub sync : ℕ
sync = 16710

-- clause 6.1: PT, "T" in ASCII, 54 hex
abbrev pub packet_type : ℕ
packet_type = 84

-- clause 6.2: the major revision that is written, the only one that is read
abbrev pub major : ℕ
major = 1

-- and the minor revision that is written; any is read
abbrev pub minor : ℕ
minor = 0

-- clause 6.1: the bytes before the payload; with those of the CRC as many as the shortest packet has
abbrev pub header_bytes : ℕ
header_bytes = 10

-- clause 6.1: the bytes of the CRC behind the payload
abbrev pub crc_bytes : ℕ
crc_bytes = 2

-- document 01, "Bounds": the most bytes of a payload
abbrev pub most_payload : ℕ
most_payload = most_l - least_l

-- ---- what stands in a packet

-- clause 6.1, the fields of the header: the two bytes "AF"
abbrev pub sync_of : List ℕ → ℕ
sync_of s = number_at 2 s 0

-- LEN: the bytes of the payload
abbrev pub len_of : List ℕ → ℕ
len_of s = number_at 4 s 2

-- SEQ
abbrev pub seq_of : List ℕ → ℕ
seq_of s = number_at 2 s 6

-- AR: CF and the revision
abbrev pub ar_of : List ℕ → ℕ
ar_of s = number_at 1 s 8

-- PT: the packet type
abbrev pub pt_of : List ℕ → ℕ
pt_of s = number_at 1 s 9

-- clause 6.1, AR: the top bit is CF, then come 3 bits of the major and 4 bits of the minor revision
abbrev pub cf_of : List ℕ → Bool
cf_of s = eqb (ar_of s / 128) 1

-- the 3 bits of the major revision
abbrev pub major_of : List ℕ → ℕ
major_of s = ar_of s / 16 % 8

-- the 4 bits of the minor revision
abbrev pub minor_of : List ℕ → ℕ
minor_of s = ar_of s % 16

-- clause 6.1: between header and CRC; nothing where the packet is shorter than both
unfoldable pub payload_of : List ℕ → List ℕ
payload_of s = take (length s - least_l) (drop header_bytes s)

-- clause 6.1: where the payload begins in the lent packet p, in its block behind the header; the empty part of a shorter packet, at its start
unfoldable pub payload_place : Bor (List ℕ) → ℕ × ℕ
payload_place p = cond (ltb (length p.now) least_l) p.ref_ptr (p.ref_ptr.0, header_bytes + p.ref_ptr.1)

-- clause 6.1: header and payload, which the CRC covers
unfoldable pub covered_of : List ℕ → List ℕ
covered_of s = take (length s - crc_bytes) s

-- clause 6.1: the CRC, behind what it covers
abbrev pub crc_of : List ℕ → ℕ
crc_of s = number_at crc_bytes s (length s - crc_bytes)

-- ---- how a packet is written

-- clause 6.1: AR of the revision that is written
unfoldable pub ar_with : Bool → ℕ
ar_with cf = bit cf * 128 + major * 16 + minor

-- clause 6.1: the header of a payload of len bytes
unfoldable pub header_of : ℕ → Bool → ℕ → List ℕ
header_of seq cf len = bytes_of 2 sync ++ bytes_of 4 len ++ bytes_of 2 seq ++ bytes_of 1 (ar_with cf) ++ bytes_of 1 packet_type

-- clause 6.1, CRC: with CF 1 that of header and payload, as sent; with CF 0 it is 0000
unfoldable pub crc_for : Bool → List ℕ → ℕ
crc_for cf covered = cond cf (word_of covered) 0

-- clause 6.1: header and payload with the CRC behind them
unfoldable pub closed : Bool → List ℕ → List ℕ
closed cf covered = covered ++ bytes_of crc_bytes (crc_for cf covered)

-- clause 6.1: the packet of a payload
unfoldable pub packet_of : ℕ → Bool → List ℕ → List ℕ
packet_of seq cf payload = closed cf (header_of seq cf (length payload) ++ payload)
