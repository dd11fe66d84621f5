-- `added` meets its contract: a place a turn. Assumes nothing.
use Rattle.codeword.specs.Code.{plus}
use Rattle.code_rules.proofs.LoopLaws.{Upto}
use Rattle.code_lanes.proofs.added.Given as goal

abbrev pub invariant-loop-m : goal.invariant-loop-m
invariant-loop-m l = Upto (plus l.x l.b l.q) l.q l.m l.n
