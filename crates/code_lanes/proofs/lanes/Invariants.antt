-- `lanes` meets its contract: a lane a turn. Assumes nothing.
use lib.ListN.{replicate}
use Rattle.code_rules.specs.inner.Kernel.{lane_by}
use Rattle.code_rules.proofs.LoopLaws.{Upto}
use Rattle.code_lanes.proofs.lanes.Given as goal

abbrev pub invariant-loop-m : goal.invariant-loop-m
invariant-loop-m l = Upto (lane_by l.k l.s l.r) (replicate 48 0) l.m l.q
