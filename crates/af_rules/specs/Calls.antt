-- What the calls on AF packets answer (document 01, "AF layer" and "Numbers given back").
use Rattle.std.specs.Prelude.{Bool, not, ◌||◌, List, [], ◌∷◌, ℕ, ◌+◌, ltb, eqb, length, Result}
use Rattle.base_rules.specs.Bounds.{least_l, most_l}
use Rattle.base_rules.specs.Tests.{first, bit}
use Rattle.base_rules.specs.Answer.{Answer, answered, Outcome, settled}
use Rattle.base_rules.specs.Refusal.{told}
use Rattle.base_rules.specs.declared.Refusal.{Refusal}
use Rattle.base_rules.specs.Bytes.{splice}
use Rattle.af_rules.specs.Packet.{sync, major, packet_type, most_payload, sync_of, len_of, seq_of, pt_of, cf_of, major_of, minor_of, covered_of, crc_of}
use Rattle.af_rules.specs.Packet.{crc_for, packet_of}
use Rattle.af_rules.specs.declared.Figures.{Figures}

-- document 01, 22: length not LEN + 12 or over 8,192
unfoldable pub bad_length : List ℕ → Bool
bad_length s = not (eqb (length s) (len_of s + least_l)) || ltb most_l (length s)

-- document 01, 25: the CRC field is not the one that is due, also with CF 0
unfoldable pub bad_crc : List ℕ → Bool
bad_crc s = not (eqb (crc_of s) (crc_for (cf_of s) (covered_of s)))

-- document 01, the AF checks 20 to 25: the first number that is due, 0 where the packet passes
unfoldable pub af_fault : List ℕ → ℕ
af_fault s =
    first
    ((ltb (length s) least_l, 20)
    ∷ (not (eqb (sync_of s) sync), 21)
    ∷ (bad_length s, 22)
    ∷ (not (eqb (major_of s) major), 23)
    ∷ (not (eqb (pt_of s) packet_type), 24)
    ∷ (bad_crc s, 25)
    ∷ [])

-- what a check is answered: that number, else SEQ, CF, the minor revision and LEN
unfoldable pub check_call : List ℕ → Answer
check_call s = answered (af_fault s) (seq_of s ∷ bit (cf_of s) ∷ minor_of s ∷ len_of s ∷ [])

-- the values that the answer carries, in the same order
unfoldable pub values_of : Figures → List ℕ
values_of p = p.seq ∷ bit p.cf ∷ p.minor ∷ p.len ∷ []

-- document 01's number and the values, for each case
unfoldable pub number_of : Result Figures Refusal → Answer
number_of r = told values_of r

-- "wrapping a payload over 8,180 bytes gives 22, then ROOM": with `room` bytes lent for a payload of len bytes
unfoldable pub wrap_fault : ℕ → ℕ → ℕ
wrap_fault len room = first ((ltb most_payload len, 22) ∷ (ltb room (len + least_l), 1) ∷ [])

-- what wrapping leaves: the packet at the front of out, and all else of it as it was
unfoldable pub wrap_call : ℕ → Bool → List ℕ → List ℕ → Outcome
wrap_call seq cf payload out = settled (wrap_fault (length payload) (length out)) [] (splice out 0 (packet_of seq cf payload)) out
