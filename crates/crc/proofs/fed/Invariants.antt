-- `fed` is `feed`, by the short cut. The loop keeps what the shifts that are left make of the register. Assumes nothing.
use mathlib.Core.Path.{◌≡◌}
use Prim.Native.Nat.{ℕ, zero, suc, ◌-◌, ◌≤◌}
use Rattle.crc_rules.specs.Crc.{feed}
use Rattle.crc_rules.specs.inner.Shifts.{shift}
use Rattle.crc.proofs.fed.Given as goal

unfoldable pub shifts : ℕ → ℕ → ℕ
shifts zero r = r
shifts (suc n) r = shifts n (shift r)

abbrev pub invariant-loop : goal.invariant-loop
invariant-loop l = (l.counter ≤ 8) × (shifts (8 - l.counter) l.q ≡ feed l.r l.b)
