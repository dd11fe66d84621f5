-- The theorems of the AF layer (clause 6), A1 to A3. Each is proved in proofs/Proved.antt.
use Rattle.std.specs.Prelude.{◌≡◌, Bool, List, [], ◌∷◌, ◌++◌, ℕ, ◌+◌, ◌≤◌, ◌<◌, length, drop}
use Rattle.base_rules.specs.Answer.{granted, outcome}
use Rattle.base_rules.specs.Bounds.{least_l, most_l}
use Rattle.base_rules.specs.Bytes.{Bytes}
use Rattle.base_rules.specs.Tests.{bit}
use Rattle.af_rules.specs.Packet.{minor, most_payload, seq_of, cf_of, minor_of, payload_of, packet_of}
use Rattle.af_rules.specs.Calls.{af_fault, check_call, wrap_call}

-- A1: what is wrapped passes the AF checks, and SEQ, CF and the payload are read back
pub record Back (seq : ℕ) (cf : Bool) (payload : List ℕ) : Type 0 where
  pub size : length (packet_of seq cf payload) ≡ length payload + least_l
  pub bytes : Bytes (packet_of seq cf payload)
  pub written : (out : List ℕ) → length payload + least_l ≤ length out
      → wrap_call seq cf payload out ≡ outcome (granted []) (packet_of seq cf payload ++ drop (length payload + least_l) out)
  pub passes : af_fault (packet_of seq cf payload) ≡ 0
  pub checked : check_call (packet_of seq cf payload) ≡ granted (seq ∷ bit cf ∷ minor ∷ length payload ∷ [])
  pub same : payload_of (packet_of seq cf payload) ≡ payload

-- so it is of every SEQ, CF and payload that can be wrapped
abbrev pub A1 : Type 0
A1 = (seq : ℕ) (cf : Bool) (payload : List ℕ) → seq < 65536 → Bytes payload → length payload ≤ most_payload → Back seq cf payload

-- A2: a packet that passes, of the revision that is written, is the one that wrapping its payload writes
abbrev pub A2 : Type 0
A2 = (s : List ℕ) → Bytes s → af_fault s ≡ 0 → minor_of s ≡ minor → s ≡ packet_of (seq_of s) (cf_of s) (payload_of s)

-- A3: a packet that passes is within the bounds
abbrev pub A3 : Type 0
A3 = (s : List ℕ) → af_fault s ≡ 0 → (least_l ≤ length s) × (length s ≤ most_l)
