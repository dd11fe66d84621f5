-- `add_row` meets its contract: a place a turn. Assumes nothing.
use Rattle.codeword.specs.Code.{plus}
use Rattle.code_rules.specs.inner.Patterns.{row_of}
use Rattle.code_rules.proofs.LoopLaws.{Upto}
use Rattle.code_solver.proofs.solving.add_row.Given as goal

abbrev pub invariant-loop-j : goal.invariant-loop-j
invariant-loop-j l = Upto (plus l.x (row_of l.q l.m) l.initial.y) l.initial.y l.j l.y
