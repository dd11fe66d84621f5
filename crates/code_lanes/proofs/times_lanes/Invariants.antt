-- `times_lanes` meets its contract: a lane a turn. Assumes nothing.
use lib.ListN.{replicate}
use Rattle.code_rules.specs.inner.Patterns.{times_all}
use Rattle.code_rules.proofs.LoopLaws.{Upto}
use Rattle.code_lanes.proofs.times_lanes.Given as goal

abbrev pub invariant-loop-m : goal.invariant-loop-m
invariant-loop-m l = Upto (times_all l.a l.b) (replicate 48 0) l.m l.r
