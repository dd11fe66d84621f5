-- The rules of the two tables of crate `field`, and what a logarithm is to its code. Of them the claim `Ruled` alone speaks.
use Rattle.std.specs.Prelude.{◌≡◌, List, ℕ, ◌+◌, ◌<◌, get_or}
use Rattle.field_rules.specs.Field.{times2, alpha}

-- the powers: entry 0 is 1, and each next entry is the one before it times α
pub record Exps (t : List ℕ) : Type 0 where
  pub start : get_or t 0 0 ≡ 1
  pub next : (i : ℕ) → i + 1 < 255 → get_or t (i + 1) 0 ≡ times2 (get_or t i 0)

-- the logarithms: the entry at α^i is i, and at 0, which is never read, 0
pub record Logs (t : List ℕ) : Type 0 where
  pub none : get_or t 0 0 ≡ 0
  pub entry : (i : ℕ) → i < 255 → get_or t (alpha i) 0 ≡ i

-- l is a logarithm of x
pub record Logged (x l : ℕ) : Type 0 where
  pub small : l < 255
  pub power : alpha l ≡ x
