-- `mark_cells` meets its contract: a row a turn, and the rest. Assumes nothing.
use mathlib.Core.Path.{◌≡◌}
use Prim.Native.Nat.{◌*◌}
use Rattle.base_rules.specs.Bytes.{splice}
use Rattle.code_rules.specs.Calls.{lost_cells}
use Rattle.code_solver.proofs.cells.mark_cells.Given as goal

abbrev pub invariant-loop-o : goal.invariant-loop-o
invariant-loop-o l = l.mask ≡ splice l.initial.mask 0 (lost_cells l.kept l.f 0 (l.o * l.f))
