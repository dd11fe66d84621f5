-- What every writer of a text promises of the buffer that it was lent (document 01: "the first bytes of the lent buffer and no others").
use Rattle.std.specs.Prelude.{ℕ, ◌≤◌, ◌≡◌, List, length, take, drop}

-- what was written stands from `from` up to `to` of the buffer, and nothing else of it changed
pub record Wrote (before : List ℕ) (from to : ℕ) (after : List ℕ) : Type 0 where
  pub onward : from ≤ to
  pub within : to ≤ length before
  pub same : length after ≡ length before
  pub ahead : take from after ≡ take from before
  pub behind : drop to after ≡ drop to before
