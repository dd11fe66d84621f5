-- `pick` meets its contract: after t turns the first t bytes of the fragment are written. Assumes nothing.
use mathlib.Core.Path.{◌≡◌}
use mathlib.Core.List.{List}
use Prim.Native.Nat.{ℕ, ◌+◌, ◌*◌}
use lib.ListN.{get_or}
use Rattle.base_rules.specs.Bytes.{splice}
use Rattle.base_rules.specs.Table.{table}
use Rattle.weave.proofs.rows.pick.Given as goal

abbrev pub rule : List ℕ → ℕ → ℕ → ℕ → ℕ
rule block f i t = get_or block (i + f * t) 0

abbrev pub invariant-loop-t : goal.invariant-loop-t
invariant-loop-t l = l.out ≡ splice l.initial.out 0 (table (rule l.block l.f l.i) 0 l.t)
