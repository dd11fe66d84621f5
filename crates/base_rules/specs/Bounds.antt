-- Document 01, "Bounds": the figures that several layers share. Each stands here for the definitions, and in src/lib.rt for the code.
use Rattle.std.specs.Prelude.{Bool, ◌||◌, ℕ, eqb, ltb}

-- bytes of an AF packet: the least
abbrev pub least_l : ℕ
least_l = 12

-- "AF packet 12 to 8,192 bytes": the most
abbrev pub most_l : ℕ
most_l = 8192

-- fragments of a packet
abbrev pub most_f : ℕ
most_f = 256

-- bytes of a place, in which the fragments of one packet are kept
abbrev pub place : ℕ
place = 12288

-- data bytes of a chunk
abbrev pub most_k : ℕ
most_k = 207

-- "k 0 or over 207": no chunk has k data bytes
unfoldable pub bad_k : ℕ → Bool
bad_k k = eqb k 0 || ltb most_k k

-- parity bytes of a chunk (clause 7.2.1: p = 48)
abbrev pub parity : ℕ
parity = 48

-- losses that may be asked for
abbrev pub most_m : ℕ
most_m = 5

-- bytes of a datagram
abbrev pub most_mtu : ℕ
most_mtu = 16384
