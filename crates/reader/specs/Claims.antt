-- What document 01 says of a reader, of the struct: each is proved in proofs/Proved.antt.
use Rattle.std.specs.Prelude.{◌≡◌, List, ◌++◌, ℕ, take, replicate, Ok}
use Rattle.std.specs.Borrow.{Bor}
use Rattle.item_rules.specs.declared.Bytes.{Bytes}
use Rattle.item_rules.specs.declared.Repeats.{Repeats}
use Rattle.item_rules.specs.declared.Step.TheVariants as step
use Rattle.tag_rules.specs.Reading.{checked_run, items_of, last_of}
use Rattle.reader.specs.declared.Reader.{Reader}
use Rattle.reader.specs.Steps.{opened_on, step_of, handed_by, moved_by}

-- "hands out its items one after another. A step after the last item answers END with the count of padding bytes", for ever; a refused one
-- answers its refusal
abbrev pub InOrder : Type 0
InOrder = (w : Repeats) (p : Bor (List ℕ)) (n : ℕ)
    → handed_by n (opened_on w p) ≡ take n (items_of (checked_run w p.now) ++ replicate n (last_of (checked_run w p.now)))

-- "and the reader stays there": no field of it changes
abbrev pub StaysAtEnd : Type 0
StaysAtEnd = (r : Reader) (b : Bytes) → step_of r ≡ Ok (step.End b) → (n : ℕ) → moved_by n r ≡ r

-- so it does where its packet is refused
abbrev pub StaysRefused : Type 0
StaysRefused = (r : Reader) → (r.refusal ≡ 0 → ⊥) → (n : ℕ) → moved_by n r ≡ r
