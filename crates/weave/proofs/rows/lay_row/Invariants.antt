-- `lay_row` meets its contract: after r turns the first r cells of the row are written. Assumes nothing.
use mathlib.Core.Path.{◌≡◌}
use Prim.Native.Nat.{◌*◌}
use Rattle.base_rules.specs.Bytes.{splice}
use Rattle.base_rules.specs.Table.{table}
use Rattle.cut_rules.specs.Cells.{cell_of}
use Rattle.weave.proofs.rows.lay_row.Given as goal

abbrev pub invariant-loop-r : goal.invariant-loop-r
invariant-loop-r l = l.out ≡ splice l.initial.out (l.o * l.f) (table (cell_of l.held l.f l.s) (l.o * l.f) l.r)
