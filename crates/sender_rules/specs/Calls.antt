-- What the senders answer (document 01, "Numbers given back": "Senders: 40, AF checks, 41, 42, ROOM").
use Rattle.std.specs.Prelude.{Bool, cond, not, List, [], ◌∷◌, ℕ, ◌+◌, ◌-◌, ◌*◌, leb, ltb, eqb, length, take, drop, Result}
use Rattle.base_rules.specs.Bounds.{most_f, place}
use Rattle.base_rules.specs.Tests.{first}
use Rattle.base_rules.specs.Bytes.{splice}
use Rattle.base_rules.specs.Answer.{Answer, Outcome, settled}
use Rattle.base_rules.specs.Refusal.{told}
use Rattle.base_rules.specs.declared.Refusal.{Refusal}
use Rattle.cut_rules.specs.declared.Settings.{Settings}
use Rattle.cut_rules.specs.Sizes.{most_h, h, f, s}
use Rattle.cut_rules.specs.Plan.{fit}
use Rattle.af_rules.specs.Calls.{af_fault}
use Rattle.sender_rules.specs.Fragments.{payload_for, fragment_for, fragments_for}
use Rattle.sender_rules.specs.declared.Split.{Split}

-- 40 SETTINGS, the AF checks, 41 TOOMANY, in front of what else is checked
abbrev pub checks : Settings → List ℕ → List (Bool × ℕ) → List (Bool × ℕ)
checks g packet rest =
    (not (fit g), 40) ∷ (not (eqb (af_fault packet) 0), af_fault packet) ∷ (ltb most_f (f g (length packet)), 41) ∷ rest

-- what the packet is refused for, whichever fragment is asked
unfoldable pub packet_fault : Settings → List ℕ → ℕ
packet_fault g packet = first (checks g packet [])

-- what fragment i is refused for, with `room` bytes lent: then 42 INDEX, 1 ROOM
unfoldable pub fragment_fault : Settings → ℕ → List ℕ → ℕ → ℕ → ℕ
fragment_fault g number packet i room =
    first (checks g packet ((leb (f g (length packet)) i, 42) ∷ (ltb room (length (fragment_for g number packet i)), 1) ∷ []))

-- else the fragment stands at the front of out; the answer carries its length
unfoldable pub fragment_call : Settings → ℕ → List ℕ → ℕ → List ℕ → Outcome
fragment_call g number packet i out =
    settled (fragment_fault g number packet i (length out))
    (length (fragment_for g number packet i) ∷ [])
    (splice out 0 (fragment_for g number packet i))
    out

-- document 01's number and values for each case: the bytes written
unfoldable pub sent_number : Result ℕ Refusal → Answer
sent_number r = told (λ n. n ∷ []) r

-- what all fragments are refused for, with `room` bytes lent: then 1 ROOM
unfoldable pub fragments_fault : Settings → ℕ → List ℕ → ℕ → ℕ
fragments_fault g number packet room = first (checks g packet ((ltb room (length (fragments_for g number packet)), 1) ∷ []))

-- else they stand at the front of out, one behind the other; the answer carries f, h, s and the last Plen
unfoldable pub fragments_call : Settings → ℕ → List ℕ → List ℕ → Outcome
fragments_call g number packet out =
    settled (fragments_fault g number packet (length out))
    (f g (length packet) ∷ h g ∷ s g (length packet) ∷ length (payload_for g packet (f g (length packet) - 1)) ∷ [])
    (splice out 0 (fragments_for g number packet))
    out

-- the values that the answer carries, in the same order
unfoldable pub split_values : Split → List ℕ
split_values p = p.f ∷ p.h ∷ p.s ∷ p.last ∷ []

-- document 01's number and values for each case
unfoldable pub all_number : Result Split Refusal → Answer
all_number r = told split_values r

-- card.h, "f fragments of h + s bytes each, the last one of h + last": part i of `out`, by these figures
unfoldable pub part_at : ℕ → ℕ → ℕ → ℕ → List ℕ → ℕ → List ℕ
part_at f h s last out i = take (h + cond (eqb (i + 1) f) last s) (drop (i * (h + s)) out)

-- card.h, "no packet's fragments take more": the bytes of a place and 256 headers of 20
abbrev pub most_sent : ℕ
most_sent = place + most_f * most_h
