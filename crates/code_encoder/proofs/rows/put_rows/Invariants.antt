-- `put_rows` meets its contract: a row a turn. Assumes nothing.
use Prim.Native.Nat.{◌+◌, ◌*◌}
use Rattle.code_rules.specs.inner.Kernel.{Made}
use Rattle.code_encoder.proofs.rows.put_rows.Given as goal

abbrev pub invariant-loop-u : goal.invariant-loop-u
invariant-loop-u l = Made l.t ((l.n * 32 + l.u) * 48)
