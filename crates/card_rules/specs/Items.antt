-- What the calls for C on a packet's items answer: finding by name, and a walk, which C holds as bytes (document 01, "TAG layer").
use Rattle.std.specs.Prelude.{◌≡◌, Bool, not, cond, ◌||◌, List, [], ◌∷◌, ℕ, ◌+◌, ◌*◌, eqb, length, Result, Ok, Err}
use Rattle.base_rules.specs.Answer.{Answer, granted, refused, Outcome, settled}
use Rattle.base_rules.specs.Bytes.{number_at}
use Rattle.base_rules.specs.Tests.{first}
use Rattle.item_rules.specs.declared.Repeats.{Repeats}
use Rattle.item_rules.specs.declared.Repeats.TheVariants.{Forbidden, Allowed}
use Rattle.item_rules.specs.Item.{values_of}
use Rattle.walk_rules.specs.declared.Handed.{Handed}
use Rattle.walk_rules.specs.declared.Handed.TheVariants as handed
use Rattle.walk_rules.specs.declared.Walker.{Walker}
use Rattle.walk_rules.specs.declared.Walked.{Walked}
use Rattle.walk_rules.specs.Names.{deepest}
use Rattle.walk_rules.specs.Step.{opens, walk_step}
use Rattle.card_rules.specs.Told.{refusal_in, in_widths, too_short, told_of}

-- document 02, Item 1: names may repeat where `repeats` is not 0
unfoldable pub repeats_of : ℕ → Repeats
repeats_of repeats = cond (eqb repeats 0) Forbidden Allowed

-- the widths of what finding tells, an occurrence too: which packet 1 byte; the name, which was given, none; the bits 4, the value's place 8 and
-- its bytes 4; document 02, Item 11: the start 8, the unused bits 1
abbrev pub found_widths : List ℕ
found_widths = 1 ∷ 0 ∷ 4 ∷ 8 ∷ 4 ∷ 8 ∷ 1 ∷ []

-- ---- a walk as bytes

-- its seven numbers have eight bytes each,
abbrev pub walker_widths : List ℕ
walker_widths = 8 ∷ 8 ∷ 8 ∷ 8 ∷ 8 ∷ 8 ∷ 8 ∷ []

-- so it takes 56: the position, the depth, and an end for each depth, of which 0 is one
abbrev pub walker_bytes : ℕ
walker_bytes = 8 * (deepest + 3)

-- a walk that is not refused: its position, its depth, and where the packets of the five depths end
unfoldable pub walker_bytes_of : Walker → List ℕ
walker_bytes_of w = in_widths walker_widths (w.at ∷ w.depth ∷ w.ends)

-- the walk that such bytes are
unfoldable pub walker_from : List ℕ → Walker
walker_from s = record {
  refusal = 0;
  at = number_at 8 s 0;
  depth = number_at 8 s 8;
  ends = number_at 8 s 16 ∷ number_at 8 s 24 ∷ number_at 8 s 32 ∷ number_at 8 s 40 ∷ number_at 8 s 48 ∷ [];
}

-- ---- opening one

-- the walk's refusal, and then 1 ROOM where there are not the bytes of a walk
unfoldable pub walk_open_fault : Repeats → List ℕ → List ℕ → List ℕ → ℕ
walk_open_fault word packet names walker =
    first ((not (eqb (opens word packet names).refusal 0), (opens word packet names).refusal) ∷ (not (eqb (length walker) walker_bytes), 1) ∷ [])

-- what is opened stands in the walk's bytes, which a refusal leaves
unfoldable pub walk_open_call : Repeats → List ℕ → List ℕ → List ℕ → Outcome
walk_open_call word packet names walker = settled (walk_open_fault word packet names walker) [] (walker_bytes_of (opens word packet names)) walker

-- ---- a step

-- what a step tells C: 1 and the item's depth and values; at the end zeros, and the bytes of padding in the place of the value's
unfoldable pub stepped_number : Result Handed ℕ → Answer
stepped_number (Ok (handed.Item v)) = granted (1 ∷ v.depth ∷ values_of v.item)
stepped_number (Ok (handed.End p)) = granted (0 ∷ 0 ∷ 0 ∷ 0 ∷ 0 ∷ p.0 ∷ 0 ∷ 0 ∷ [])
stepped_number (Err n) = refused n

-- the widths of that: 1 byte and 1 of depth, the name 4, the bits 4, the value's place 8 and its bytes 4; document 02, Item 11: the start 8, the unused
-- bits 1
abbrev pub step_widths : List ℕ
step_widths = 1 ∷ 1 ∷ 4 ∷ 4 ∷ 8 ∷ 4 ∷ 8 ∷ 1 ∷ []

-- the step of the walk that the bytes are
abbrev pub stepped : List ℕ → List ℕ → List ℕ → Walked
stepped packet names walker = walk_step packet names (walker_from walker)

-- 1 ROOM: not the bytes of a walk, or too few for what is told
unfoldable pub step_room : List ℕ → List ℕ → Bool
step_room walker told = not (eqb (length walker) walker_bytes) || too_short step_widths told

-- what is answered: 1 ROOM, else what the step hands out
unfoldable pub walk_step_call : List ℕ → List ℕ → List ℕ → List ℕ → Answer
walk_step_call packet names walker told = cond (step_room walker told) (refused 1) (stepped_number (stepped packet names walker).handed)

-- the bytes of the walk afterwards: where it goes on; a refusal leaves them
unfoldable pub walker_after : List ℕ → List ℕ → List ℕ → List ℕ → List ℕ
walker_after packet names walker told =
    cond (eqb (refusal_in (walk_step_call packet names walker told)) 0) (walker_bytes_of (stepped packet names walker).next) walker

-- a step for C: the number given back, what is told, and the bytes of the walk
pub record CardStepped (packet names walker walker-after told told_afterwards : List ℕ) (r : ℕ) : Type 0 where
  pub number : r ≡ refusal_in (walk_step_call packet names walker told)
  pub tells : told_afterwards ≡ told_of step_widths (walk_step_call packet names walker told) told
  pub goes : walker-after ≡ walker_after packet names walker told
