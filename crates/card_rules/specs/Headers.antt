-- What the call for C that reads a datagram's header answers (clause 7.1; document 01, "PFT layer").
use Rattle.std.specs.Prelude.{List, [], ◌∷◌, ◌++◌, ℕ, Option, Some, None}
use Rattle.base_rules.specs.Answer.{Answer, answered}
use Rattle.base_rules.specs.Tests.{bit}
use Rattle.cut_rules.specs.Sizes.{header_length}
use Rattle.cut_rules.specs.declared.Address.{Address}
use Rattle.header_rules.specs.declared.Header.{Header}
use Rattle.header_rules.specs.Read.{fault_of, fields_of}

-- the address: 1, Source and Dest, or zeros
unfoldable pub address_told : Option Address → List ℕ
address_told None = 0 ∷ 0 ∷ 0 ∷ []
address_told (Some a) = 1 ∷ a.source ∷ a.dest ∷ []

-- card.h, "h, where the payload begins": behind the header's bytes
abbrev pub payload_at : Header → ℕ
payload_at h = header_length h.fec h.address

-- clause 7.1: Pseq, Findex, Fcount, FEC, RSk and RSz, which are 0 without FEC; the address; Plen, and where the payload begins
unfoldable pub header_told : Header → List ℕ
header_told h =
    h.number
    ∷ h.index
    ∷ h.count
    ∷ bit h.fec
    ∷ h.rsk
    ∷ h.rsz
    ∷ (address_told h.address ++ (h.plen ∷ payload_at h ∷ []))

-- the widths of that: two bytes each, but one for FEC, RSk, RSz, for whether there is an address, and for h
abbrev pub header_widths : List ℕ
header_widths = 2 ∷ 2 ∷ 2 ∷ 1 ∷ 1 ∷ 1 ∷ 1 ∷ 2 ∷ 2 ∷ 2 ∷ 1 ∷ []

-- document 01: what is answered of a datagram, for the configured address: 2 to 8 in this order, else what is told of its header
unfoldable pub parse_for : Option Address → List ℕ → Answer
parse_for own datagram = answered (fault_of own datagram) (header_told (fields_of datagram))
