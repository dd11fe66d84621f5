-- Numbers told one behind the other, byte by byte. Assumes nothing.
use mathlib.Core.Path.{◌≡◌, refl, sym, ap, ap₂, ◌∙◌}
use mathlib.Core.Bool.{true}
use mathlib.Core.List.{List, [], ◌∷◌, ◌++◌, append_assoc, append-nil}
use Prim.Native.Nat.{ℕ, suc, ◌+◌, ◌-◌, ◌/◌, ◌%◌, ◌<◌, ◌≤◌}
use native.Mathlib.Omega.{arith}
use borrow.Author.Tests.{ltb-false, le-ltb, lt-ltb}
use lib.ListN.{length, get_or, take, drop, set, length-append, drop_of_length-le}
use lib.Seq.{length-take-le, take-set-le, drop_at, drop-cons, set_split}
use Rattle.base_rules.specs.Answer.{Answer, granted, refused}
use Rattle.base_rules.specs.Bytes.{splice, bytes_of}
use Rattle.base_rules.proofs.Logic.{either}
use Rattle.base_rules.proofs.Numbers.{length-bytes}
use Rattle.base_rules.proofs.Splice.{splice_none, splice-then, splice-length}
use Rattle.card_rules.specs.Told.{refusal_in, in_widths, told_length, too_short, room_for, told_of, CardTold}

-- ---- bytes that have place, and that are as many as all

-- where what is lent has room, what is due is due as it is,
pub fits_room : (widths told : List ℕ) (a : Answer) → told_length widths ≤ length told → room_for widths told a ≡ a
unfolding room_for
fits_room widths told (granted values) fits = rw (le-ltb (length told) (told_length widths) fits)
fits_room widths told (refused n) fits = refl

-- what was granted had room,
pub had_room : (widths told values : List ℕ) → 0 ≡ refusal_in (room_for widths told (granted values)) → told_length widths ≤ length told
unfolding room_for refusal_in
had_room widths told values e =
    either (too_short widths told) (λ short. let z : ◌≡◌ {A = ℕ} 0 1 = rw short at e in absurd (omega arith)) (λ fits. ltb-false _ _ fits)

-- and the values of an answer that refuses nothing stand at its front
pub told_room : (widths values before : List ℕ) → told_length widths ≤ length before
    → told_of widths (room_for widths before (granted values)) before ≡ splice before 0 (in_widths widths values)
unfolding told_of
told_room widths values before fits = ap (λ (a : Answer). told_of widths a before) (fits_room widths before (granted values) fits)

-- bytes as many as the buffer has, laid down from its front, replace all of it
pub whole : (d s : List ℕ) → length s ≡ length d → splice d 0 s ≡ s
unfolding splice
whole d s e = ap (λ (l : List ℕ). s ++ l) (drop_of_length-le d {i = 0 + length s} (omega arith)) ∙ append-nil s

-- ---- one number, its lowest byte first

-- a byte that stands already, right behind what is still to be written
stands : (d : List ℕ) (at : ℕ) (s : List ℕ) (v n : ℕ) → n ≡ at + length s → n < length d
    → splice (set d n v) at s ≡ splice d at (s ++ (v ∷ []))
unfolding splice
stands d at s v n is_n inside =
    let cut : drop n (set d n v) ≡ v ∷ drop (suc n) d =
    ap (drop n) (set_split d n v inside) ∙ drop_at (take n d) (v ∷ drop (suc n) d) n (length-take-le n d (omega arith)) in
    let longer : suc n ≡ at + length (s ++ (v ∷ [])) = omega (arith, length-append s (v ∷ [])) in
    ap (λ (k : ℕ). take at (set d n v) ++ (s ++ drop k (set d n v))) (sym is_n)
    ∙ ap₂ (λ (l m : List ℕ). l ++ (s ++ m)) (take-set-le at d n v (omega arith)) cut
    ∙ ap (λ (l : List ℕ). take at d ++ l) (sym (append_assoc s (v ∷ []) (drop (suc n) d)))
    ∙ ap (λ (k : ℕ). take at d ++ ((s ++ (v ∷ [])) ++ drop k d)) longer

-- with the lowest byte of a number written, those of the rest are to be,
pub byte_put : (d : List ℕ) (from left x : ℕ) → from < left → left ≤ length d
    → splice (set d (left - 1) (x % 256)) from (bytes_of (left - 1 - from) (x / 256)) ≡ splice d from (bytes_of (left - from) x)
unfolding bytes_of
byte_put d from left x some inside =
    let k : ℕ = left - 1 - from in
    let one_more : suc k ≡ left - from = omega arith in
    stands d from (bytes_of k (x / 256)) (x % 256) (left - 1) (omega (arith, length-bytes k (x / 256))) (omega arith)
    ∙ ap (λ (j : ℕ). splice d from (bytes_of j x)) one_more

-- and with none left all stand there
pub bytes_put : (d : List ℕ) (from left x : ℕ) → left ≤ from → d ≡ splice d from (bytes_of (left - from) x)
unfolding bytes_of
bytes_put d from left x none =
    let zero_left : 0 ≡ left - from = omega arith in
    splice_none d from ∙ ap (λ (j : ℕ). splice d from (bytes_of j x)) zero_left

-- ---- number by number

-- as many numbers as there are widths take as many bytes as the widths say, whatever the numbers are
pub length_in : (widths values : List ℕ) → length values ≡ length widths → length (in_widths widths values) ≡ told_length widths
unfolding in_widths told_length
length_in [] values e = refl
length_in (w ∷ widths) [] e = absurd (omega arith)
length_in (w ∷ widths) (x ∷ values) e =
    length-append (bytes_of w x) (in_widths widths values)
    ∙ ap₂ (λ (j k : ℕ). j + k) (length-bytes w x) (length_in widths values (omega arith))

-- what is still to be told behind i numbers
abbrev left_of : List ℕ → List ℕ → ℕ → List ℕ
left_of widths values i = in_widths (drop i widths) (drop i values)

left_next : (widths values : List ℕ) (i : ℕ) → i < length widths → i < length values
    → left_of widths values i ≡ bytes_of (get_or widths i 0) (get_or values i 0) ++ left_of widths values (i + 1)
unfolding in_widths
left_next widths values i a b =
    let one_more : suc i ≡ i + 1 = omega arith in
    ap₂ in_widths (drop-cons widths i 0 a) (drop-cons values i 0 b)
    ∙ ap (λ (k : ℕ). bytes_of (get_or widths i 0) (get_or values i 0) ++ left_of widths values k) one_more

-- behind `at` bytes of n the rest is to be told, and with it the whole stands there
pub record Telling (widths values before : List ℕ) (n : ℕ) (told : List ℕ) (at i : ℕ) : Type 0 where
  pub long : length told ≡ length before
  pub room : at + length (left_of widths values i) ≡ n
  -- with the rest told from there on, all the numbers stand from the front
  pub whole : splice told at (left_of widths values i) ≡ splice before 0 (in_widths widths values)

module _ (widths values before : List ℕ) (n : ℕ) (alike : (length values ≡ length widths) × (told_length widths ≡ n)) where
  long : length (in_widths widths values) ≡ n
  long = length_in widths values alike.0 ∙ alike.1

  -- at the start none is told and all are still to be
  pub tells_none : Telling widths values before n before 0 0
  tells_none = record { long = refl; room = omega (arith, long); whole = refl }

  module _ {told : List ℕ} {at i : ℕ} (t : Telling widths values before n told at i) where
    tells_next : i < length widths → i < length values → at + (get_or widths i 0 + length (left_of widths values (i + 1))) ≡ n
    tells_next a b =
        let w : ℕ = get_or widths i 0 in
        let bytes : List ℕ = bytes_of w (get_or values i 0) in
        let rest : List ℕ = left_of widths values (i + 1) in
        let both : length (left_of widths values i) ≡ w + length rest =
        ap length (left_next widths values i a b) ∙ length-append bytes rest ∙ ap (λ (k : ℕ). k + length rest) (length-bytes w (get_or values i 0)) in
        omega (arith, t.room)

    -- the next number has room,
    pub tells_room : n ≤ length before → i < length widths → i < length values → at + get_or widths i 0 ≤ length told
    tells_room fits a b = omega (arith, t.long, tells_next a b)

    -- and then the one behind it is to be told
    pub tells_more : {after : List ℕ} (end : ℕ) → n ≤ length before → i < length widths → i < length values → end ≡ at + get_or widths i 0
        → after ≡ splice told at (bytes_of (end - at) (get_or values i 0)) → Telling widths values before n after end (i + 1)
    tells_more {after = after} end fits a b is-end put =
        let w : ℕ = get_or widths i 0 in
        let bytes : List ℕ = bytes_of (end - at) (get_or values i 0) in
        let rest : List ℕ = left_of widths values (i + 1) in
        let is-w : end - at ≡ w = omega arith in
        let wide : length bytes ≡ end - at = length-bytes (end - at) (get_or values i 0) in
        let behind : end ≡ at + length bytes = omega arith in
        let in-room : at + length bytes ≤ length told = omega (arith, tells_room fits a b) in
        record {
          long = ap length put ∙ splice-length told at bytes in-room ∙ t.long;
          room = omega (arith, tells_next a b);
          whole =
              ap₂ (λ (l : List ℕ) (k : ℕ). splice l k rest) put behind
              ∙ splice-then told bytes rest at (omega arith)
              ∙ ap (λ (k : ℕ). splice told at (bytes_of k (get_or values i 0) ++ rest)) is-w
              ∙ ap (splice told at) (sym (left_next widths values i a b))
              ∙ t.whole;
        }

    -- behind the last width all the numbers are told, where there is room for them
    pub tells_all : n ≤ length before → length widths ≤ i → CardTold widths (granted values) before told 0
    unfolding in_widths refusal_in
    tells_all fits end =
        let room : told_length widths ≤ length before = omega (arith, alike.1) in
        record {
          number = sym (ap refusal_in (fits_room widths before (granted values) room));
          told =
              splice_none told at
              ∙ ap (λ (l : List ℕ). splice told at (in_widths l (drop i values))) (sym (drop_of_length-le widths {i = i} end))
              ∙ t.whole
              ∙ sym (told_room widths values before room);
        }

  -- where the numbers have no room, that is 1 ROOM, and the lent bytes stay as they were
  pub tells_short : length before < n → CardTold widths (granted values) before before 1
  unfolding room_for refusal_in told_of
  tells_short short =
      let no : too_short widths before ≡ true = lt-ltb (length before) (told_length widths) (omega (arith, alike.1)) in
      record { number = rw no refl; told = rw no refl }
