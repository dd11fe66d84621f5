-- What a call leaves: its answer as document 01 numbers it, and the bytes that were lent to it.
use Rattle.std.specs.Prelude.{List, ℕ, zero, suc}

-- an answer: nothing is refused, with the values that it carries; or the number of the refusal, alone
pub data Answer : Type 0 where
  granted : List ℕ → Answer
  refused : ℕ → Answer

-- what a call that writes leaves: its answer, and the lent bytes afterwards
pub data Outcome : Type 0 where
  outcome : Answer → List ℕ → Outcome

-- its answer,
unfoldable pub answer_in : Outcome → Answer
answer_in (outcome a bytes) = a

-- and the bytes
unfoldable pub bytes_in : Outcome → List ℕ
bytes_in (outcome a bytes) = bytes

-- the answer where `fault` is the number that is due, 0 for none
unfoldable pub answered : ℕ → List ℕ → Answer
answered zero values = granted values
answered (suc fault) values = refused (suc fault)

-- the same with lent bytes: a refusal leaves them as they were before
unfoldable pub settled : ℕ → List ℕ → List ℕ → List ℕ → Outcome
settled zero values written before = outcome (granted values) written
settled (suc fault) values written before = outcome (refused (suc fault)) before
