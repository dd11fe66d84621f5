-- What a function promises that answers a question or has no answer to it.
use Rattle.std.specs.Prelude.{ℕ, List, Option, ◌≡◌, MatchOption}
use Rattle.text_rules.specs.Wrote.{Wrote}

-- an answer of so many bytes stands at the front of the buffer, or there is none, and the buffer is as it was
abbrev pub Answered : List ℕ → Option ℕ → List ℕ → Type 0
Answered before answer after = MatchOption answer (after ≡ before) (λ n. Wrote before 0 n after)
