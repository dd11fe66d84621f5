-- `register` meets its contract: eight bytes a turn. Assumes nothing.
use mathlib.Core.Path.{◌≡◌}
use Rattle.code_rules.specs.inner.Register.{register_by}
use Rattle.code_encoder.proofs.register.register.Given as goal

abbrev pub invariant-loop-i : goal.invariant-loop-i
invariant-loop-i l = l.p ≡ register_by l.t l.d l.i
