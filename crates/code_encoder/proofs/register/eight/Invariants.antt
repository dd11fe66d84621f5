-- `eight` meets its contract: a row a turn, of the last byte first. Assumes nothing.
use mathlib.Core.Path.{◌≡◌}
use Rattle.code_rules.specs.inner.Register.{last_by}
use Rattle.code_encoder.proofs.register.eight.Given as goal

abbrev pub invariant-loop-n : goal.invariant-loop-n
invariant-loop-n l = l.q ≡ last_by l.t l.p l.d l.at l.n
