-- `suffices` meets its contract: after j turns the first j chunks bear what is lost, as the readings at their ends tell. Assumes nothing.
use mathlib.Core.Path.{◌≡◌}
use Prim.Native.Nat.{ℕ, ◌+◌, ◌*◌, ◌≤◌, ◌<◌}
use Rattle.base_rules.specs.Bounds.{parity}
use Rattle.weave_rules.proofs.PrefixSums.{reading}
use Rattle.weave.proofs.tally.suffices.Given as goal

abbrev pub invariant-loop-j : goal.invariant-loop-j
invariant-loop-j l = (l.before ≡ reading l.sums l.f (l.j * l.n))
    × ((i : ℕ) → i < l.j → reading l.sums l.f (i * l.n + l.n) ≤ parity + reading l.sums l.f (i * l.n))
