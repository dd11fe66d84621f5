-- The claims of specs/Claims.antt on headers. Assumes nothing.
use mathlib.Core.Path.{◌≡◌, refl, sym, ap, ◌∙◌, subst}
use mathlib.Core.Bool.{Bool}
use mathlib.Core.List.{List, [], ◌∷◌, ◌++◌}
use Prim.Native.Nat.{ℕ, ◌^◌, ◌<◌}
use native.Mathlib.Omega.{arith}
use lib.Dec.{lit<}
use lib.ListN.{get_or, drop}
use Rattle.std.specs.Prelude.{Option, Some, None, Result, Ok, Err}
use Rattle.base_rules.specs.Answer.{Answer, granted, refused, answered}
use Rattle.base_rules.specs.Refusal.{number, told}
use Rattle.base_rules.specs.declared.Refusal.{Refusal}
use Rattle.base_rules.specs.Bytes.{Bytes}
use Rattle.base_rules.specs.Tests.{bit}
use Rattle.base_rules.proofs.Logic.{either}
use Rattle.code_rules.proofs.CallCases.{granted_by, refused_by}
use Rattle.cut_rules.proofs.PlanCases.{length_most}
use Rattle.cut_rules.specs.declared.Address.{Address}
use Rattle.header_rules.specs.declared.Header.{Header}
use Rattle.header_rules.specs.Claims.{Fitting, Sound}
use Rattle.header_rules.specs.Read.{has_fec, address_at, fields_of, body_length, length_of, fault_of, parsed_of}
use Rattle.header_rules.proofs.Proved.{passed_sound, payload_stands}
use Rattle.packed_rules.specs.Packed.{table_from}
use Rattle.receiver_rules.specs.Promise as promise
use Rattle.receiver_rules.specs.Promise.{payload_of, State}
use Rattle.receiver_rules.specs.Claims.{due_for}
use Rattle.receiver_rules.proofs.Steps.{header_refused, header_passed, header_due}
use Rattle.receiver_rules.proofs.Unique.{step-refused}
use Rattle.card_rules.specs.Told.{refusal_in, too_short, room_for}
use Rattle.card_rules.specs.Headers.{address_told, payload_at, header_told, header_widths, parse_for}
use Rattle.card_rules.specs.inner.Parsed.{parsed_told}
use Rattle.card_rules.specs.Claims.{Fits, no_more, then, HeaderWhole, PayloadBegins, RefusedAlike}
use Rattle.card_rules.proofs.HeaderLaws.{last-two, parsed_told_lem}
use Rattle.card_rules.proofs.RefusalLaws.{header_other}
use Rattle.card_rules.proofs.SendProved.{at_most}
use Rattle.card_rules.proofs.ReceiveProved.{with_record, refused_unchanged}

-- ---- what is told is not cut off

few-length : (h : Header) → payload_at h < 256
few-length h = omega (arith, length_most h.fec h.address)

few_bit : (b : Bool) → bit b < 256
few_bit b = omega (arith, at_most b 1)

address_fits : (a : Option Address) {widths rest : List ℕ} → Fitting a → Fits widths rest → Fits (1 ∷ 2 ∷ 2 ∷ widths) (address_told a ++ rest)
unfolding Fitting address_told
address_fits None fit more = then (lit< tt) (then (lit< tt) (then (lit< tt) more))
address_fits (Some a) fit more = then (lit< tt) (then fit.0 (then fit.1 more))

-- what fits the bytes of the figure i
abbrev below : ℕ → ℕ
below i = 256 ^ get_or header_widths i 0

-- a header that passed fits the bytes in which it is told
told_fits : (h : Header) → Sound h → Fits header_widths (header_told h)
unfolding header_told
told_fits h sound =
    let written = sound.written in
    let index : h.index < below 1 = omega (arith, sound.below, sound.few) in
    let count : h.count < below 2 = omega (arith, sound.few) in
    let plen : h.plen < below 9 = omega (arith, written.plen) in
    let behind : Fits (2 ∷ 1 ∷ []) (h.plen ∷ payload_at h ∷ []) = then plen (then (few-length h) no_more) in
    then written.number (then index (then count (then (few_bit h.fec) (then written.rsk (then written.rsz
    (address_fits h.address written.address behind))))))

parsed_fits : (own : Option Address) (s : List ℕ) → Bytes s → (x : Result Header Refusal) → x ≡ parsed_of own s → (values : List ℕ) → parsed_told x ≡ granted values
    → Fits header_widths values
unfolding parsed_told told answered
parsed_fits own s bytes (Ok h) is values e =
    let passed = header_passed own s is refl in
    subst (Fits header_widths) (granted_by 0 (header_told h) values e).1
    (told_fits h (subst Sound (sym passed.1) (passed_sound own s bytes passed.0)))
parsed_fits own s bytes (Err n) is values e = let z = refused_by (number n) 0 values e in absurd (omega (arith, z.0, z.1))

-- no figure that parsing tells is cut off
pub header_whole : HeaderWhole
header_whole own s values bytes e = parsed_fits own s bytes (parsed_of own s) refl values (parsed_told_lem own s ∙ e)

-- ---- where the payload begins

length_there : (s : List ℕ) → payload_at (fields_of s) ≡ length_of s
unfolding fields_of length_of body_length address_at
length_there s = either (has_fec s) (λ e. rw e (omega arith)) (λ e. rw e (omega arith))

-- the length told is that of the header in the datagram, and Plen bytes stand behind it
pub payload_begins : PayloadBegins
unfolding payload_of parse_for
payload_begins own s values e =
    let said = granted_by (fault_of own s) values (header_told (fields_of s)) (sym e) in
    let figures = last-two (fields_of s) in
    let plen : get_or values 9 0 ≡ (fields_of s).plen = ap (λ (l : List ℕ). get_or l 9 0) said.1 ∙ figures.0 in
    let there : get_or values 10 0 ≡ length_of s = ap (λ (l : List ℕ). get_or l 10 0) said.1 ∙ figures.1 ∙ length_there s in (
      ap (λ (n : ℕ). drop n s) there,
      omega (arith, there, plen, payload_stands own s (sym said.0)),
    )

-- ---- parsing and receiving refuse alike

-- a number above 1 is that of the answer itself
above_room : (widths told : List ℕ) (a : Answer) {n : ℕ} → n ≡ refusal_in (room_for widths told a) → 1 < n → a ≡ refused n
unfolding room_for refusal_in
above_room widths told (granted values) is some =
    either (too_short widths told)
    (λ e. let z = rw e at is in absurd (omega arith))
    (λ e. let z = rw e at is in absurd (omega arith))
above_room widths told (refused m) is some = ap refused (sym is)

parsed_refused : (x : Result Header Refusal) {n : ℕ} → parsed_told x ≡ refused n → (e : Refusal) × (x ≡ Err e) × (number e ≡ n)
unfolding parsed_told told refusal_in answered
parsed_refused (Ok h) {n} e = let z = refused_by n 0 (header_told h) (sym e) in absurd (omega (arith, z.0, z.1))
parsed_refused (Err m) e = (m, refl, ap refusal_in e)

-- what parsing refuses for its header receiving refuses with the same number, and leaves all that is lent
pub refused_alike : RefusedAlike
unfolding promise.reception promise.refused_as
refused_alike own s told told_afterwards n said some before after r ready bytes promised =
    let refusal = parsed_refused (parsed_of own s) (parsed_told_lem own s ∙ above_room header_widths told _ said.number some) in
    let by = header_refused own s refl refusal.1 in
    let due : (n ≡ fault_of own s) × (n ≡ 0 → ⊥) = (sym refusal.2 ∙ by.0, (λ z. by.1 (refusal.2 ∙ z))) in
    let state : State = record { table = table_from before.record_bytes; bytes = before.lent } in
    let is : n ≡ due_for own state s before.out = header_due own _ _ s _ refl ready.room due.0 due.1 in
    let p = with_record own s before after r promised ready.taken ready.tells in
    let left = step-refused own state s before.out (λ z. due.1 (is ∙ z)) p.step in
    let same : r ≡ n = p.number ∙ ap (λ (o : promise.Reception). o.answer.0) left ∙ sym is in (
      same,
      refused_unchanged own s before after r bytes promised (λ z. due.1 (sym same ∙ z))
          (λ z. header_other own s (sym due.0 ∙ sym same ∙ z)),
    )
