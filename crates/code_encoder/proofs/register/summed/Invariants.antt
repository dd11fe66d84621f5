-- `summed` meets its contract: a place a turn. Assumes nothing.
use lib.ListN.{drop}
use Rattle.code_rules.specs.inner.Kernel.{sum_of}
use Rattle.code_rules.proofs.LoopLaws.{Upto}
use Rattle.code_encoder.proofs.register.summed.Given as goal

abbrev pub invariant-loop-j : goal.invariant-loop-j
invariant-loop-j l = Upto (sum_of l.p (drop l.k l.c)) l.p l.j l.q
