-- What is claimed of the fragments that are sent (clause 7.3): the proofs are in proofs/Proved.antt.
use Rattle.base_rules.specs.declared.Refusal.{Refusal}
use Rattle.std.specs.Prelude.{true, false, List, [], ◌++◌, ◌≡◌, ℕ, zero, suc, ◌+◌, ◌-◌, ◌*◌, ◌/◌, ◌%◌, ◌≤◌, ◌<◌, length, get_or, Option, Result}
use Rattle.base_rules.specs.Bytes.{splice}
use Rattle.cut_rules.specs.declared.Address.{Address}
use Rattle.cut_rules.specs.declared.Settings.{Settings}
use Rattle.cut_rules.specs.Sizes.{c, n, h, f, s}
use Rattle.header_rules.specs.Read.{fields_of, bad_address, fault_of}
use Rattle.header_rules.specs.Claims.{Fitting}
use Rattle.sender_rules.specs.Fragments.{block_for, payload_for, header_for, fragment_for, fragments_for}
use Rattle.sender_rules.specs.Calls.{packet_fault, sent_number, fragments_fault, all_number, part_at, most_sent}
use Rattle.sender_rules.specs.declared.Split.{Split}

-- document 01: the bytes of a fragment: h, and with FEC s; without it s, and for the last one what is left
pub record Sized (g : Settings) (packet : List ℕ) : Type 0 where
  pub whole : (number i : ℕ) → length (fragment_for g number packet i) ≡ h g + length (payload_for g packet i)
  pub fec : g.fec ≡ true → (i : ℕ) → length (payload_for g packet i) ≡ s g (length packet)
  pub plain : g.fec ≡ false → (i : ℕ) → suc i < f g (length packet) → length (payload_for g packet i) ≡ s g (length packet)
  pub last : g.fec ≡ false → length (payload_for g packet (f g (length packet) - 1)) ≡ length packet - (f g (length packet) - 1) * s g (length packet)

-- so it is of every packet that is not refused
abbrev pub Sizes : Type 0
Sizes = (g : Settings) (packet : List ℕ) → packet_fault g packet ≡ 0 → Sized g packet

-- clause 7.4: every fragment that is sent passes the checks 2 to 8 for every configuration that accepts its address, and reads as it was meant
abbrev pub Received : Type 0
Received =
    (g : Settings) (number : ℕ) (packet : List ℕ) (i : ℕ) (own : Option Address)
    → packet_fault g packet ≡ 0 → number < 65536 → Fitting g.address → i < f g (length packet) → bad_address own g.address ≡ false
    → (fault_of own (fragment_for g number packet i) ≡ 0) × (fields_of (fragment_for g number packet i) ≡ header_for g number packet i)

-- clause 7.3.1, "interleaved": with FEC, the payload bytes put back by q mod f and q div f are the block
abbrev pub Joins : Type 0
Joins =
    (g : Settings) (packet : List ℕ) → packet_fault g packet ≡ 0 → g.fec ≡ true → (q : ℕ) → q < c (length packet) * n (length packet)
    → get_or (payload_for g packet (q % f g (length packet))) (q / f g (length packet)) 0 ≡ get_or (block_for packet) q 0

-- payloads i, i + 1, .., t of them, one behind the other
unfoldable pub payloads_from : Settings → List ℕ → ℕ → ℕ → List ℕ
payloads_from g packet i zero = []
payloads_from g packet i (suc t) = payload_for g packet i ++ payloads_from g packet (suc i) t

-- document 01: without FEC, the payloads one behind the other are the packet
abbrev pub JoinsPlain : Type 0
JoinsPlain =
    (g : Settings) (packet : List ℕ) → packet_fault g packet ≡ 0 → g.fec ≡ false → payloads_from g packet 0 (f g (length packet)) ≡ packet

-- card.h: where all fragments are written, part i by the four figures that the answer carries is fragment i
abbrev pub Splits : Type 0
Splits =
    (g : Settings) (number : ℕ) (packet out : List ℕ) → fragments_fault g number packet (length out) ≡ 0
    → (i : ℕ) → i < f g (length packet)
    → part_at (f g (length packet)) (h g) (s g (length packet)) (length (payload_for g packet (f g (length packet) - 1)))
    (splice out 0 (fragments_for g number packet)) i
    ≡ fragment_for g number packet i

-- card.h: no packet's fragments take more than 17,408 bytes
abbrev pub MostSent : Type 0
MostSent =
    (g : Settings) (number : ℕ) (packet : List ℕ) → packet_fault g packet ≡ 0 → length (fragments_for g number packet) ≤ most_sent

-- no second answer of a sender has the same number and values
abbrev pub OneSent : Type 0
OneSent = (a b : Result ℕ Refusal) → sent_number a ≡ sent_number b → a ≡ b

-- nor of the sender of all
abbrev pub OneSentAll : Type 0
OneSentAll = (a b : Result Split Refusal) → all_number a ≡ all_number b → a ≡ b
