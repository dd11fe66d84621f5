-- A sender's call with too few bytes to tell in: what it answers with none to write in is due. Assumes nothing.
use mathlib.Core.Path.{◌≡◌, refl, sym, ap, ◌∙◌}
use mathlib.Core.Bool.{Bool, true, false}
use mathlib.Core.List.{List, [], ◌∷◌}
use Prim.Native.Nat.{ℕ, zero, suc, ◌<◌}
use borrow.Author.Tests.{lt-ltb}
use lib.ListN.{length}
use Rattle.base_rules.specs.Answer.{Answer, granted, refused, outcome, settled, answer_in}
use Rattle.base_rules.specs.Tests.{first}
use Rattle.cut_rules.specs.declared.Settings.{Settings}
use Rattle.sender_rules.specs.Calls.{fragment_fault, fragment_call, fragments_fault, fragments_call}
use Rattle.card_rules.specs.Told.{refusal_in, told_length, room_for, told_of, CardTold, SentAs}
use Rattle.card_rules.specs.Sending.{twos}
use Rattle.card_rules.proofs.ToldLaws.{answer_in_lem}

-- the refusal that is due, 1 ROOM where none is
abbrev or_room : ℕ → ℕ
or_room zero = 1
or_room (suc n) = suc n

module _ (widths told : List ℕ) (short : length told < told_length widths) where
  no_room : (a : Answer) → told_of widths (room_for widths told a) told ≡ told
  unfolding room_for told_of
  no_room (granted values) = rw (lt-ltb (length told) (told_length widths) short)
  no_room (refused n) = refl

  or_room_lem : (fault : ℕ) (values written before : List ℕ)
      → refusal_in (room_for widths told (answer_in (settled fault values written before))) ≡ or_room fault
  unfolding answer_in settled room_for refusal_in
  or_room_lem zero values written before = rw (lt-ltb (length told) (told_length widths) short)
  or_room_lem (suc n) values written before = refl

  sent_short : (fault other : ℕ) (values written written' before : List ℕ) {told_afterwards after : List ℕ} {r : ℕ} {a : Answer}
      → or_room other ≡ or_room fault → outcome a after ≡ settled other values written' [] → CardTold widths a told told_afterwards r
      → SentAs widths (settled fault values written before) told told_afterwards before before r
  sent_short fault other values written written' before alike e said = record {
    tells = record {
      number =
          said.number ∙ ap (λ (x : Answer). refusal_in (room_for widths told x)) (answer_in_lem e)
          ∙ or_room_lem other values _ [] ∙ alike ∙ sym (or_room_lem fault values written before);
      told = said.told ∙ no_room _ ∙ sym (no_room (answer_in (settled fault values written before)));
    };
    out = rw (lt-ltb (length told) (told_length widths) short) refl;
  }

-- ---- 1 ROOM stands last among the tests

or-last : (b c : Bool) → or_room (first ((b, 1) ∷ [])) ≡ or_room (first ((c, 1) ∷ []))
unfolding first
or-last true true = refl
or-last true false = refl
or-last false true = refl
or-last false false = refl

or_more : (b : Bool) (n : ℕ) (ts us : List (Bool × ℕ)) → or_room (first ts) ≡ or_room (first us)
    → or_room (first ((b, n) ∷ ts)) ≡ or_room (first ((b, n) ∷ us))
unfolding first
or_more true n ts us e = refl
or_more false n ts us e = e

module _ (g : Settings) (number : ℕ) (packet out told : List ℕ) {told_afterwards after : List ℕ} {r : ℕ} {a : Answer} where
  -- so it is of one fragment,
  pub fragment_short : (i : ℕ) → length told < told_length (twos 1) → outcome a after ≡ fragment_call g number packet i []
      → CardTold (twos 1) a told told_afterwards r → SentAs (twos 1) (fragment_call g number packet i out) told told_afterwards out out r
  unfolding fragment_call fragment_fault
  fragment_short i short e said =
      sent_short (twos 1) told short _ _ _ _ _ out (or_more _ 40 _ _ (or_more _ _ _ _ (or_more _ 41 _ _ (or_more _ 42 _ _ (or-last _ _))))) e said

  -- and of all
  pub fragments_short : length told < told_length (twos 4) → outcome a after ≡ fragments_call g number packet []
      → CardTold (twos 4) a told told_afterwards r → SentAs (twos 4) (fragments_call g number packet out) told told_afterwards out out r
  unfolding fragments_call fragments_fault
  fragments_short short e said =
      sent_short (twos 4) told short _ _ _ _ _ out (or_more _ 40 _ _ (or_more _ _ _ _ (or_more _ 41 _ _ (or-last _ _)))) e said
