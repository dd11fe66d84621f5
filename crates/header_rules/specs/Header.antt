-- The header of a PFT fragment as it is written (clause 7.1; document 01, "PFT layer").
use Rattle.std.specs.Prelude.{cond, List, [], ◌∷◌, ◌++◌, ℕ, ◌+◌, ◌%◌, ltb, length, Option, Some, None}
use Rattle.base_rules.specs.Answer.{Outcome, settled}
use Rattle.base_rules.specs.Bytes.{splice, bytes_of}
use Rattle.base_rules.specs.Tests.{first}
use Rattle.crc_rules.specs.Crc.{word_of}
use Rattle.cut_rules.specs.declared.Address.{Address}
use Rattle.header_rules.specs.declared.Header.{Header}

-- clause 7.1: "PF" in ASCII, 5046 hex
abbrev pub sync : ℕ
sync = 0x5046

-- clause 7.1: the FEC bit, the Addr bit and the 14 bits of Plen stand in two bytes
abbrev pub fec_bit : ℕ
fec_bit = 32768

-- the Addr bit
abbrev pub addr_bit : ℕ
addr_bit = 16384

-- the Addr bit where there is an address
unfoldable pub addr_flag : Option Address → ℕ
addr_flag None = 0
addr_flag (Some a) = addr_bit

-- the number in the two bytes
unfoldable pub flags_of : Header → ℕ
flags_of h = cond h.fec fec_bit 0 + (addr_flag h.address + h.plen % addr_bit)

-- clause 7.1: with FEC, RSk and RSz
unfoldable pub fec_part : Header → List ℕ
fec_part h = cond h.fec (h.rsk ∷ h.rsz ∷ []) []

-- clause 7.1: with Addr, Source and Dest
unfoldable pub address_part : Option Address → List ℕ
address_part None = []
address_part (Some a) = bytes_of 2 a.source ++ bytes_of 2 a.dest

-- clause 7.1: "PF", Pseq, Findex, Fcount, the flags with Plen
unfoldable pub front_of : Header → List ℕ
front_of h = bytes_of 2 sync ++ (bytes_of 2 h.number ++ (bytes_of 3 h.index ++ (bytes_of 3 h.count ++ bytes_of 2 (flags_of h))))

-- clause 7.1: all header bytes before HCRC
unfoldable pub body_of : Header → List ℕ
body_of h = front_of h ++ (fec_part h ++ address_part h.address)

-- clause 7.1: the header, with HCRC over all header bytes before it
unfoldable pub header_bytes : Header → List ℕ
header_bytes h = body_of h ++ bytes_of 2 (word_of (body_of h))

-- document 01: what is written takes the first bytes of out and no others; 1 ROOM where they do not fit
unfoldable pub write_call : Header → List ℕ → Outcome
write_call h out = settled (first ((ltb (length out) (length (header_bytes h)), 1) ∷ [])) [] (splice out 0 (header_bytes h)) out
