-- A reader as a struct, opened, asked and moved on, by the definitions of `tag` (document 01, "TAG layer").
use Rattle.std.specs.Prelude.{List, [], ◌∷◌, ℕ, zero, suc, Result}
use Rattle.std.specs.Borrow.{Bor}
use Rattle.base_rules.specs.Answer.{Answer}
use Rattle.item_rules.specs.declared.Repeats.{Repeats}
use Rattle.item_rules.specs.declared.Step.{Step}
use Rattle.tag_rules.specs.Find.{check_of}
use Rattle.tag_rules.specs.Calls.{read_of, read_call, after_of}
use Rattle.reader.specs.declared.Reader.{Reader}

-- document 01: opening checks the whole packet; the reader begins at 0 and keeps the refusal, 0 for none
abbrev pub opened_on : Repeats → Bor (List ℕ) → Reader
opened_on w p = record { packet = p; at = 0; refusal = check_of w p.now }

-- document 01: what it hands out where it stands
abbrev pub step_of : Reader → Result Step ℕ
step_of r = read_of r.packet.now r.at r.refusal

-- that as document 01's number and values
abbrev pub told_by : Reader → Answer
told_by r = read_call r.packet.now r.at r.refusal

-- document 01: the reader behind what it handed out
abbrev pub moved_of : Reader → Reader
moved_of r = record { packet = r.packet; at = after_of r.packet.now r.at r.refusal; refusal = r.refusal }

-- document 01: what it hands out in so many steps, one after another,
unfoldable pub handed_by : ℕ → Reader → List (Result Step ℕ)
handed_by zero r = []
handed_by (suc n) r = step_of r ∷ handed_by n (moved_of r)

-- and the reader after them
unfoldable pub moved_by : ℕ → Reader → Reader
moved_by zero r = r
moved_by (suc n) r = moved_by n (moved_of r)
