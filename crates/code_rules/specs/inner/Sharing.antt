-- What the private functions that fill a chunk hold, and what the chunks that miss the same places share.
use Rattle.std.specs.Prelude.{◌≡◌, Bool, true, false, List, ℕ, ◌+◌, ◌≤◌, length, replicate}
use Rattle.base_rules.specs.Bounds.{most_k, parity}
use Rattle.base_rules.specs.Bytes.{Bytes}
use Rattle.codeword.specs.Code.{Coded, full}
use Rattle.codeword.specs.Erasure.{marks, erase, count, locators}
use Rattle.code_rules.specs.inner.Words.{table-size}
use Rattle.code_rules.specs.inner.Kernel.{remainder, Made, Multiples, roots_list}
use Rattle.code_rules.specs.inner.Patterns.{Pattern}

-- the locators of the missing places
unfoldable pub locs : ℕ → List ℕ → List ℕ
locs k mask = locators (full Bool.false k (marks mask))

-- r is what the generator leaves of c, whose members are bytes
pub record Left (k : ℕ) (c r : List ℕ) : Type 0 where
  pub rest : r ≡ remainder k c
  pub bytes : Bytes c

-- the missing bytes of c, which are 0, are put in: rightly, if any chunk of the code agrees (clause 7.4.4)
pub record Guessed (k : ℕ) (mask c after : List ℕ) : Type 0 where
  pub size : length after ≡ length c
  pub keeps : erase (marks mask) after ≡ erase (marks mask) c
  pub right : (w : List ℕ) → Coded k w → erase (marks mask) w ≡ c → after ≡ w

-- whether 48 bytes are all 0
abbrev pub ZeroTest : List ℕ → Bool → Type 0
ZeroTest r true = r ≡ replicate parity 0
ZeroTest r false = r ≡ replicate parity 0 → ⊥

-- what the chunks that miss the same places share
pub record Shared (t rk q sc mask : List ℕ) (e k : ℕ) : Type 0 where
  pub short : k ≤ most_k
  pub masked : length mask ≡ k + parity
  pub few : e ≤ parity
  pub counted : e ≡ count (marks mask)
  pub table : Made t table-size
  pub roots : Multiples roots_list rk
  pub found : Pattern (locs k mask) q sc
