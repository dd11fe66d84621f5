-- What is claimed of headers (clause 7.1; document 01, "Numbers given back"): the proofs are in proofs/Proved.antt.
use Rattle.std.specs.Prelude.{true, false, List, ◌++◌, ◌≡◌, ℕ, ◌+◌, ◌*◌, ◌≤◌, ◌<◌, length, Option, Some, None, Result}
use Rattle.base_rules.specs.Bytes.{Bytes}
use Rattle.base_rules.specs.Bounds.{most_f, most_k, place, parity}
use Rattle.base_rules.specs.declared.Refusal.{Refusal}
use Rattle.cut_rules.specs.Sizes.{header_length}
use Rattle.cut_rules.specs.declared.Address.{Address}
use Rattle.header_rules.specs.declared.Header.{Header}
use Rattle.header_rules.specs.Header.{addr_bit, header_bytes}
use Rattle.header_rules.specs.Read.{fields_of, length_of, bad_address, fault_of, number_of}

-- an address's two numbers have two bytes each
unfoldable pub Fitting : Option Address → Type 0
Fitting None = Unit {0}
Fitting (Some a) = (a.source < 65536) × (a.dest < 65536)

-- a header whose fields have the bytes that clause 7.1 gives them; without FEC there is no RSk and no RSz
pub record Written (h : Header) : Type 0 where
  pub number : h.number < 65536
  pub index : h.index < 16777216
  pub count : h.count < 16777216
  pub plen : h.plen < addr_bit
  pub rsk : h.rsk < 256
  pub rsz : h.rsz < 256
  pub plain : h.fec ≡ false → (h.rsk ≡ 0) × (h.rsz ≡ 0)
  pub address : Fitting h.address

-- a header such as a sender writes (document 01, 5, 7 and 8)
pub record Sound (h : Header) : Type 0 where
  pub written : Written h
  pub some : 0 < h.plen
  pub below : h.index < h.count
  pub few : h.count ≤ most_f
  pub fits : h.count * h.plen ≤ place
  pub chunk : h.fec ≡ true → (0 < h.rsk) × (h.rsk ≤ most_k) × (h.rsz < h.rsk) × (h.rsk + parity ≤ h.count * h.plen)

-- clause 7.1: a header that is written reads as itself, whatever stands behind it
abbrev pub ReadsBack : Type 0
ReadsBack = (h : Header) (rest : List ℕ) → Written h → fields_of (header_bytes h ++ rest) ≡ h

-- document 01: a written fragment passes the checks 2 to 8 for every configuration that accepts its address
abbrev pub Passes : Type 0
Passes =
    (own : Option Address) (h : Header) (payload : List ℕ) → Sound h → length payload ≡ h.plen → bad_address own h.address ≡ false
    → fault_of own (header_bytes h ++ payload) ≡ 0

-- and what passes them is sound,
abbrev pub PassedSound : Type 0
PassedSound = (own : Option Address) (s : List ℕ) → Bytes s → fault_of own s ≡ 0 → Sound (fields_of s)

-- and its payload is all that stands behind it (document 01, 5 LENGTH)
abbrev pub PayloadStands : Type 0
PayloadStands = (own : Option Address) (s : List ℕ) → fault_of own s ≡ 0 → length s ≡ length_of s + (fields_of s).plen

-- document 01: h is 14, two more with FEC, four more with an address
abbrev pub HeaderLength : Type 0
HeaderLength = (h : Header) → length (header_bytes h) ≡ header_length h.fec h.address

-- no second answer of the parser has the same number and values
abbrev pub OneParsed : Type 0
OneParsed = (a b : Result Header Refusal) → number_of a ≡ number_of b → a ≡ b
