-- `fill_in` meets its contract: a place a turn, as far as the mask and the word both go. Assumes nothing.
use Prim.Native.Nat.{◌≤◌}
use Rattle.code_rules.proofs.MaskLaws.{Filled}
use Rattle.code_solver.proofs.masks.fill_in.Given as goal

abbrev pub invariant-loop-i : goal.invariant-loop-i
invariant-loop-i l = (l.k ≤ l.i) × Filled l.mask l.vs l.initial.word l.i l.k l.word
