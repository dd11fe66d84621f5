-- What filling the missing bytes of a chunk has to answer. No algorithm is named here.
use Rattle.std.specs.Prelude.{◌≡◌, List, ℕ, ◌≤◌, ◌<◌, Result, Ok, Err}
use Rattle.base_rules.specs.Bounds.{parity}
use Rattle.base_rules.specs.declared.Refusal.{Refusal}
use Rattle.codeword.specs.Code.{Coded}
use Rattle.codeword.specs.Erasure.{marks, erase, count}
use Rattle.code_rules.specs.declared.Filled.{Filled}
use Rattle.code_rules.specs.declared.Filled.TheVariants.{Done, Nothing, NotEnough}

-- w is a chunk of the code, of k data bytes and 48 parity bytes, that has the bytes of c that are there (clause 7.4.4)
pub record Agrees (k : ℕ) (mask c w : List ℕ) : Type 0 where
  pub coded : Coded k w
  pub keeps : erase (marks mask) w ≡ erase (marks mask) c

-- clause 7.4.4: the chunk c, whose bytes that the mask marks are missing, and what stands in its place after, by the answer. Done: a chunk of the
-- code that has the bytes that are there. Nothing: there is none, and 0 for each missing byte. Else all is as it was.
abbrev pub ChunkAfter : ℕ → List ℕ → List ℕ → List ℕ → Result Filled Refusal → Type 0
ChunkAfter k mask c after (Ok Done) = (count (marks mask) ≤ parity) × Agrees k mask c after
ChunkAfter k mask c after (Ok Nothing) = (count (marks mask) ≤ parity) × ((w : List ℕ) → Agrees k mask c w → ⊥) × (after ≡ erase (marks mask) c)
ChunkAfter k mask c after (Ok NotEnough) = (parity < count (marks mask)) × (after ≡ c)
ChunkAfter k mask c after (Err e) = after ≡ c
