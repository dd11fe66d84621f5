-- An answer or an outcome that a call hands on to C. Assumes nothing.
use mathlib.Core.Path.{◌≡◌, refl, sym, ap, ◌∙◌, subst}
use mathlib.Core.Bool.{Bool, true, false, cond}
use mathlib.Core.List.{List, [], ◌∷◌}
use Prim.Native.Nat.{ℕ, ◌≤◌}
use borrow.Author.Tests.{le-ltb}
use lib.ListN.{length}
use Rattle.base_rules.specs.Answer.{Answer, granted, refused, Outcome, outcome, settled, answer_in, bytes_in}
use Rattle.base_rules.specs.Tests.{first}
use Rattle.card_rules.specs.Told.{refusal_in, told_length, room_for, told_of, CardWritten, CardTold, SentAs}

-- ---- a call that writes

-- the answer of an outcome,
pub answer_in_lem : {a : Answer} {after : List ℕ} {due : Outcome} → outcome a after ≡ due → a ≡ answer_in due
unfolding answer_in
answer_in_lem e = ap answer_in e

-- and its bytes
pub bytes_in_lem : {a : Answer} {after : List ℕ} {due : Outcome} → outcome a after ≡ due → after ≡ bytes_in due
unfolding bytes_in
bytes_in_lem e = ap bytes_in e

-- where the bytes that it is lent are too few, it leaves them as they were
pub chosen : (short : Bool) (written before : List ℕ) → bytes_in (settled (first ((short, 1) ∷ [])) [] written before) ≡ cond short before written
unfolding bytes_in settled first
chosen true written before = refl
chosen false written before = refl

-- its outcome, handed on with the answer's number
pub handed_on : {a : Answer} {after : List ℕ} {due : Outcome} {r : ℕ} → outcome a after ≡ due → r ≡ refusal_in a → CardWritten due after r
handed_on e n = record { number = n ∙ ap refusal_in (answer_in_lem e); out = bytes_in_lem e }

-- ---- a call that tells

-- what is told of an answer is told of one that is the same
pub told_as : (widths before : List ℕ) {after : List ℕ} {r : ℕ} {a b : Answer} → a ≡ b → CardTold widths a before after r
    → CardTold widths b before after r
told_as widths before {after = after} {r = r} is said = subst (λ (x : Answer). CardTold widths x before after r) is said

-- the values of an answer that refuses nothing are told,
pub told_granted : (widths values before : List ℕ) {a : Answer} {given after : List ℕ} {r : ℕ} → a ≡ granted values → given ≡ values
    → CardTold widths (granted given) before after r → CardTold widths a before after r
told_granted widths values before is e said = told_as widths before (ap granted e ∙ sym is) said

-- and of a refusal nothing is
pub told_refused : (widths before : List ℕ) {a : Answer} {n : ℕ} → a ≡ refused n → CardTold widths a before before n
unfolding refusal_in told_of room_for
told_refused widths before is = told_as widths before (sym is) (record { number = refl; told = refl })

-- ---- a call that does both

-- a call that leaves the bytes that are due and tells its answer keeps both promises, where there is room to tell in
pub sent_as : (widths told before : List ℕ) {told_afterwards after : List ℕ} {r : ℕ} {a : Answer} {due : Outcome} → told_length widths ≤ length told
    → outcome a after ≡ due → CardTold widths a told told_afterwards r → SentAs widths due told told_afterwards before after r
sent_as widths told before {after = after} room e said = record {
  tells = told_as widths told (answer_in_lem e) said;
  out = rw (le-ltb (length told) (told_length widths) room) (bytes_in_lem e);
}
