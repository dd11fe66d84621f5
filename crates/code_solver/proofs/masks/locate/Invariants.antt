-- `locate` meets its contract: a place of the mask a turn. Assumes nothing.
use Rattle.code_rules.proofs.MaskLaws.{Located}
use Rattle.code_solver.proofs.masks.locate.Given as goal

abbrev pub invariant-loop-i : goal.invariant-loop-i
invariant-loop-i l = Located l.mask l.i l.e l.xs
