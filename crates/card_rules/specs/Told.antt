-- How an answer crosses to C (card.h, "What holds of every call"): its number is given back, and its values are told as bytes in what is lent for them.
use Rattle.std.specs.Prelude.{◌≡◌, Bool, cond, List, [], ◌∷◌, ◌++◌, ℕ, ◌+◌, ltb, length}
use Rattle.base_rules.specs.Bytes.{splice, bytes_of}
use Rattle.base_rules.specs.Answer.{Answer, granted, refused, Outcome, answer_in, bytes_in}

-- the number given back: the refusal's, 0 where nothing is refused
unfoldable pub refusal_in : Answer → ℕ
refusal_in (granted values) = 0
refusal_in (refused n) = n

-- numbers one behind the other, each in as many bytes as its width says
unfoldable pub in_widths : List ℕ → List ℕ → List ℕ
in_widths [] values = []
in_widths (w ∷ widths) [] = []
in_widths (w ∷ widths) (v ∷ values) = bytes_of w v ++ in_widths widths values

-- how many bytes that takes
unfoldable pub told_length : List ℕ → ℕ
told_length [] = 0
told_length (w ∷ widths) = w + told_length widths

-- document 01, "1 ROOM: lent buffer too small": fewer bytes are lent for what is told than it takes
abbrev pub too_short : List ℕ → List ℕ → Bool
too_short widths told = ltb (length told) (told_length widths)

-- what is due where `told` is lent: the refusal that is due anyway; then 1 ROOM where `told` is too short
unfoldable pub room_for : List ℕ → List ℕ → Answer → Answer
room_for widths told (granted values) = cond (too_short widths told) (refused 1) (granted values)
room_for widths told (refused n) = refused n

-- what stands afterwards in the bytes lent for what is told: the values of an answer at the front; a refusal tells nothing
unfoldable pub told_of : List ℕ → Answer → List ℕ → List ℕ
told_of widths (granted values) before = splice before 0 (in_widths widths values)
told_of widths (refused n) before = before

-- ---- what a call for C promises; `due` is what it has to answer, and r the number that it gives back

-- of a call that writes: `after` are the bytes that it writes, afterwards
pub record CardWritten (due : Outcome) (after : List ℕ) (r : ℕ) : Type 0 where
  pub number : r ≡ refusal_in (answer_in due)
  pub out : after ≡ bytes_in due

-- of a call that tells: the values stand in what was lent for them, in these widths; 1 ROOM where that is too short
pub record CardTold (widths : List ℕ) (due : Answer) (before after : List ℕ) (r : ℕ) : Type 0 where
  pub number : r ≡ refusal_in (room_for widths before due)
  pub told : after ≡ told_of widths (room_for widths before due) before

-- of a call that does both: where what is lent to tell in is too short, nothing is written either
pub record SentAs (widths : List ℕ) (due : Outcome) (told told_afterwards before after : List ℕ) (r : ℕ) : Type 0 where
  pub tells : CardTold widths (answer_in due) told told_afterwards r
  pub out : after ≡ cond (too_short widths told) before (bytes_in due)
