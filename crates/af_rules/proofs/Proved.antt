-- The claims of specs/Claims.antt, each by citation. Assumes nothing.
use mathlib.Core.Path.{◌≡◌, refl, sym, ap, ◌∙◌}
use mathlib.Core.Bool.{Bool}
use mathlib.Core.List.{List, [], ◌∷◌, ◌++◌}
use Prim.Native.Nat.{ℕ, ◌+◌, ◌≤◌, ◌<◌}
use native.Mathlib.Nat.{zero-add}
use lib.ListN.{length, drop}
use Rattle.base_rules.specs.Answer.{granted, outcome}
use Rattle.base_rules.specs.Bounds.{least_l}
use Rattle.base_rules.specs.Bytes.{splice}
use Rattle.base_rules.specs.Tests.{bit}
use Rattle.base_rules.proofs.Answers.{grants}
use Rattle.af_rules.specs.Packet.{minor, most_payload, packet_of}
use Rattle.af_rules.specs.Calls.{check_call, wrap_call}
use Rattle.af_rules.specs.Claims.{A1, A2, A3}
use Rattle.af_rules.proofs.Checks.{passes, passing}
use Rattle.af_rules.proofs.Wraps.{wrap_done}
use Rattle.af_rules.proofs.ReadBack as back
use Rattle.af_rules.proofs.WrittenBack.{packet_again}

module _ (seq : ℕ) (cf : Bool) (payload : List ℕ) (small : seq < 65536) (few : length payload ≤ most_payload) where
  written : (out : List ℕ) → length payload + least_l ≤ length out
      → wrap_call seq cf payload out ≡ outcome (granted []) (packet_of seq cf payload ++ drop (length payload + least_l) out)
  unfolding splice
  written out room =
      sym (wrap_done seq cf payload out few _ room refl)
      ∙ ap (λ (n : ℕ). outcome (granted []) (packet_of seq cf payload ++ drop n out)) (zero-add _ ∙ back.length-packet seq cf payload)

  checked : check_call (packet_of seq cf payload) ≡ granted (seq ∷ bit cf ∷ minor ∷ length payload ∷ [])
  unfolding check_call
  checked =
      sym (grants _ _ (passes (packet_of seq cf payload) (back.packet_passes seq cf payload few)))
      ∙ simp (back.seq_back seq cf payload small, back.cf_back seq cf payload, back.minor_back seq cf payload, back.len_back seq cf payload few)

-- what is wrapped passes the AF checks, and SEQ, CF and payload are read back from it
pub a1 : A1
a1 seq cf payload small bytes few =
    record {
      size = back.length-packet seq cf payload;
      bytes = back.bytes-packet seq cf payload bytes;
      written = written seq cf payload small few;
      passes = sym (passes (packet_of seq cf payload) (back.packet_passes seq cf payload few));
      checked = checked seq cf payload small few;
      same = back.payload_back seq cf payload;
    }

pub a2 : A2
a2 s bytes e = packet_again s bytes (passing s e)

-- a packet that passes the AF checks has 12 to 8,192 bytes
pub a3 : A3
a3 s e = ((passing s e).long, (passing s e).most)
