-- `mark_row` meets its contract: a cell a turn. Assumes nothing.
use mathlib.Core.Path.{◌≡◌}
use Rattle.base_rules.specs.Bytes.{splice}
use Rattle.code_rules.specs.Calls.{lost_cells}
use Rattle.code_solver.proofs.cells.mark_row.Given as goal

abbrev pub invariant-loop-i : goal.invariant-loop-i
invariant-loop-i l = l.mask ≡ splice l.initial.mask l.at (lost_cells l.kept l.f l.at l.i)
