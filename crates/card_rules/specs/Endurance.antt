-- What the call for C tells of the losses that a cut stands (document 02, Item 12).
use Rattle.std.specs.Prelude.{Bool, List, ◌∷◌, ◌++◌, map, ℕ, replicate}
use Rattle.base_rules.specs.Answer.{Answer, granted, refused}
use Rattle.base_rules.specs.Bounds.{most_f}
use Rattle.base_rules.specs.Tests.{bit}
use Rattle.cut_rules.specs.declared.Settings.{Settings}
use Rattle.endurance_rules.specs.Endure.{endure_call}

-- an answer with flags beside it as one answer: behind its values a number for each flag, 1 where it is set; a refusal tells none
unfoldable pub with_flags : Answer × List Bool → Answer
with_flags (granted values, flags) = granted (values ++ map bit flags)
with_flags (refused n, flags) = refused n

-- what is answered: the refusal that is due, else w, f and the set
unfoldable pub endure_for : Settings → ℕ → Answer
endure_for g l = with_flags (endure_call g l)

-- the widths of that: w and f in two bytes each, and one for each of the 256 fragments that there can be
abbrev pub endure_widths : List ℕ
endure_widths = 2 ∷ 2 ∷ replicate most_f 1
