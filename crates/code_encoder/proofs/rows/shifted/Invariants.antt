-- `shifted` meets its contract: a place a turn. Assumes nothing.
use lib.ListN.{replicate}
use Rattle.code_rules.specs.inner.Kernel.{back}
use Rattle.code_rules.proofs.LoopLaws.{Upto}
use Rattle.code_encoder.proofs.rows.shifted.Given as goal

abbrev pub invariant-loop-j : goal.invariant-loop-j
invariant-loop-j l = Upto (back l.by l.p) (replicate 48 0) l.j l.q
