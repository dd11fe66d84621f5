-- `clear` meets its contract: a place a turn, as far as the mask and the word both go. Assumes nothing.
use Rattle.codeword.specs.Erasure.{erase, marks}
use Rattle.code_rules.proofs.LoopLaws.{Upto}
use Rattle.code_solver.proofs.masks.clear.Given as goal

abbrev pub invariant-loop-i : goal.invariant-loop-i
invariant-loop-i l = Upto (erase (marks l.mask) l.initial.c) l.initial.c l.i l.c
