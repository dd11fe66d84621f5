-- `tell_receipt` meets its contract: a refusal tells nothing. Assumes nothing.
use mathlib.Core.Path.{◌≡◌, refl, sym, ap, ◌∙◌}
use mathlib.Core.List.{List}
use Prim.Native.Nat.{ℕ, ◌≤◌}
use lib.ListN.{length}
use Rattle.base_rules.specs.Answer.{granted}
use Rattle.base_rules.specs.Refusal.{told}
use Rattle.receiver_rules.specs.Promise.{number_of}
use Rattle.std.specs.Prelude.{Result, Ok, Err}
use Rattle.base_rules.specs.declared.Refusal.{Refusal}
use Rattle.receiver_rules.specs.declared.Received.{Received}
use Rattle.receiver_rules.specs.declared.Received.TheVariants.{Kept, Delivered, Damaged}
use Rattle.card_rules.specs.Told.{told_length, told_of, room_for, refusal_in, CardTold}
use Rattle.card_rules.specs.Receiving.{receipt_widths, told_after}
use Rattle.card_rules.specs.inner.Receipt.{received_told}
use Rattle.card_rules.proofs.TellLaws.{told_room, fits_room}
use native.Mathlib.Omega.{arith}
use Rattle.card.proofs.receiving.tell_receipt.Goals as goal

abbrev number : Result Received Refusal → ℕ
number a = (number_of a).0

-- what is told of an answer, where there is room

told_in : (a : Result Received Refusal) (before : List ℕ) {after : List ℕ} {r : ℕ} → told_length receipt_widths ≤ length before
    → CardTold receipt_widths (told received_told a) before after r → after ≡ told_after a before
unfolding told received_told told_after told_of room_for
told_in (Ok (Kept d)) before room h = h.told ∙ told_room receipt_widths _ before room
told_in (Ok (Delivered length missing d)) before room h = h.told ∙ told_room receipt_widths _ before room
told_in (Ok (Damaged d)) before room h = h.told ∙ told_room receipt_widths _ before room
told_in (Err e) before room h = h.told

-- and the number of one that grants something, the case x

granted_in : (before : List ℕ) {after : List ℕ} {r : ℕ} {a : Result Received Refusal} {x : Received} → told_length receipt_widths ≤ length before → a ≡ Ok x
    → CardTold receipt_widths (told received_told a) before after r → r ≡ 0
unfolding told room_for refusal_in
granted_in before {x = x} room is h =
    h.number
    ∙ ap (λ (w : Result Received Refusal). refusal_in (room_for receipt_widths before (told received_told w))) is
    ∙ ap refusal_in (fits_room receipt_widths before (granted (received_told x)) room)

pub tell_answer-n-requires : goal.tell_answer-n-requires
unfolding told_length
tell_answer-n-requires c = (omega arith, refl)

pub returns-in-Kept : goal.returns-in-Kept
unfolding number_of
returns-in-Kept c = (
  granted_in _ c.requires c.in-Ok.is c.tell_answer-n.ensures ∙ sym (ap number (c.in-Ok.is ∙ ap Ok c.in-Kept.is)),
  told_in c.args.a _ c.requires c.tell_answer-n.ensures,
)

pub returns-in-Delivered : goal.returns-in-Delivered
unfolding number_of
returns-in-Delivered c = (
  granted_in _ c.requires c.in-Ok.is c.tell_answer-n.ensures ∙ sym (ap number (c.in-Ok.is ∙ ap Ok c.in-Delivered.is)),
  told_in c.args.a _ c.requires c.tell_answer-n.ensures,
)

pub returns-in-Damaged : goal.returns-in-Damaged
unfolding number_of
returns-in-Damaged c = (
  sym (ap number (c.in-Ok.is ∙ ap Ok c.in-Damaged.is)),
  told_in c.args.a _ c.requires c.tell_answer-n.ensures,
)

pub returns-in-Err : goal.returns-in-Err
unfolding number_of told room_for refusal_in
returns-in-Err c = (
  c.tell_answer-n.ensures.number
      ∙ ap (λ (w : Result Received Refusal). refusal_in (room_for receipt_widths c.args.told.now (told received_told w))) c.in-Err.is
      ∙ sym (ap number c.in-Err.is),
  told_in c.args.a _ c.requires c.tell_answer-n.ensures,
)
