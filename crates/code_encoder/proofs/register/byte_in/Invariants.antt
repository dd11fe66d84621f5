-- `byte_in` meets its contract: a place a turn. Assumes nothing.
use Rattle.code_rules.specs.inner.Register.{byte_by}
use Rattle.code_rules.proofs.LoopLaws.{Upto}
use Rattle.code_encoder.proofs.register.byte_in.Given as goal

abbrev pub invariant-loop-j : goal.invariant-loop-j
invariant-loop-j l = Upto (byte_by l.t l.n l.x l.initial.q) l.initial.q l.j l.q
