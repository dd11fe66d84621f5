-- The header of a PFT fragment as it is read, and the checks 2 to 8 of document 01, "Numbers given back".
use Rattle.std.specs.Prelude.{Bool, true, false, cond, not, ◌||◌, ◌&&◌, List, [], ◌∷◌, ℕ, ◌+◌, ◌%◌, ltb, leb, eqb, length, get_or, take, Option, Some, None, Result}
use Rattle.base_rules.specs.Answer.{Answer, answered}
use Rattle.base_rules.specs.Refusal.{told, answer_by}
use Rattle.base_rules.specs.declared.Refusal.{Refusal}
use Rattle.base_rules.specs.Bytes.{number_at}
use Rattle.base_rules.specs.Tests.{first, bit}
use Rattle.crc_rules.specs.Crc.{word_of}
use Rattle.cut_rules.specs.declared.Address.{Address}
use Rattle.cut_rules.specs.Sizes.{least_h, address_bytes}
use Rattle.weave_rules.specs.Calls.{bad_count, too_much, bad_chunk}
use Rattle.header_rules.specs.declared.Header.{Header}
use Rattle.header_rules.specs.Header.{sync, fec_bit, addr_bit}

-- clause 7.1: the two bytes of the flags and Plen
unfoldable pub flags_at : List ℕ → ℕ
flags_at s = number_at 2 s 10

-- clause 7.1: the FEC bit is set
unfoldable pub has_fec : List ℕ → Bool
has_fec s = leb fec_bit (flags_at s)

-- clause 7.1: the Addr bit is set
unfoldable pub has_address : List ℕ → Bool
has_address s = leb addr_bit (flags_at s % fec_bit)

-- clause 7.1: where the address stands, behind RSk and RSz
unfoldable pub address_at : List ℕ → ℕ
address_at s = cond (has_fec s) 14 12

-- clause 7.1: the address, or none
unfoldable pub address_of : List ℕ → Option Address
address_of s = cond (has_address s) (Some (record { source = number_at 2 s (address_at s); dest = number_at 2 s (address_at s + 2) })) None

-- clause 7.1: the fields; RSk and RSz are 0 without FEC
unfoldable pub fields_of : List ℕ → Header
fields_of s = record {
  number = number_at 2 s 2;
  index = number_at 3 s 4;
  count = number_at 3 s 7;
  fec = has_fec s;
  rsk = cond (has_fec s) (get_or s 12 0) 0;
  rsz = cond (has_fec s) (get_or s 13 0) 0;
  address = address_of s;
  plen = flags_at s % addr_bit;
}

-- document 01: the header's bytes before HCRC that the flags call for
unfoldable pub body_length : List ℕ → ℕ
body_length s = address_at s + address_bytes (address_of s)

-- document 01: h, HCRC's two bytes among them: 14, 16, 18 or 20
unfoldable pub length_of : List ℕ → ℕ
length_of s = body_length s + 2

-- 2 SHORT: under 14 bytes or under the header its flags call for
unfoldable pub is_short : List ℕ → Bool
is_short s = ltb (length s) least_h || ltb (length s) (length_of s)

-- 3 SYNC: not "PF"
unfoldable pub not_sync : List ℕ → Bool
not_sync s = not (eqb (number_at 2 s 0) sync)

-- 4 HCRC: header CRC wrong
unfoldable pub bad_crc : List ℕ → Bool
bad_crc s = not (eqb (number_at 2 s (body_length s)) (word_of (take (body_length s) s)))

-- 5 LENGTH: Plen 0, or total not h + Plen
unfoldable pub bad_length : List ℕ → Header → Bool
bad_length s h = eqb h.plen 0 || not (eqb (length s) (length_of s + h.plen))

-- 6 ADDRESS: address present, and not the configured pair, or none is configured
unfoldable pub bad_address : Option Address → Option Address → Bool
bad_address own None = false
bad_address None (Some a) = true
bad_address (Some own) (Some a) = not (eqb own.source a.source && eqb own.dest a.dest)

-- 7 COUNT: Fcount 0 or over 256, or Findex not below it
unfoldable pub bad_index : Header → Bool
bad_index h = bad_count h.count || leb h.count h.index

-- 8 SIZE: Fcount x Plen over 12,288; FEC: k 0 or over 207, z not below k, Fcount x Plen below k + 48
unfoldable pub bad_size : Header → Bool
bad_size h = too_much h.count h.plen || (h.fec && (bad_chunk h.count h.plen h.rsk || leb h.rsk h.rsz))

-- document 01: the number with which a datagram is refused by its header, for the configured address: 2 to 8 in this order
unfoldable pub fault_of : Option Address → List ℕ → ℕ
fault_of own s =
    first
    ((is_short s, 2)
    ∷ (not_sync s, 3)
    ∷ (bad_crc s, 4)
    ∷ (bad_length s (fields_of s), 5)
    ∷ (bad_address own (address_of s), 6)
    ∷ (bad_index (fields_of s), 7)
    ∷ (bad_size (fields_of s), 8)
    ∷ [])

-- what reading a datagram gives: the fields, or the number of the refusal
unfoldable pub parsed_of : Option Address → List ℕ → Result Header Refusal
parsed_of own s = answer_by (fault_of own s) (fields_of s)

-- clause 7.1: the values of an address: none, or Source and Dest
unfoldable pub address_values : Option Address → List ℕ
address_values None = []
address_values (Some a) = a.source ∷ a.dest ∷ []

-- clause 7.1: the values of a header in its order: Pseq, Findex, Fcount, FEC, RSk, RSz, Plen, and the address
unfoldable pub header_values : Header → List ℕ
header_values h = h.number ∷ h.index ∷ h.count ∷ bit h.fec ∷ h.rsk ∷ h.rsz ∷ h.plen ∷ address_values h.address

-- document 01's number and values for each case
unfoldable pub number_of : Result Header Refusal → Answer
number_of r = told header_values r

-- document 01: reading a datagram as number and values: 2 to 8, else the header's values
unfoldable pub parse_call : Option Address → List ℕ → Answer
parse_call own s = answered (fault_of own s) (header_values (fields_of s))
