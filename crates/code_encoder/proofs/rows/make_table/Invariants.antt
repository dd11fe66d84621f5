-- `make_table` meets its contract: the rows of a power a turn. Assumes nothing.
use mathlib.Core.Path.{◌≡◌}
use Prim.Native.Nat.{◌*◌}
use Rattle.code_rules.specs.inner.Kernel.{power, Made}
use Rattle.code_encoder.proofs.rows.make_table.Given as goal

abbrev pub invariant-loop-n : goal.invariant-loop-n
invariant-loop-n l = (l.b ≡ power l.n) × Made l.t (l.n * 1536)
