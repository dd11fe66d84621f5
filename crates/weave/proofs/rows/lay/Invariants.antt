-- `lay` meets its contract: after o turns the first o rows are written. Assumes nothing.
use mathlib.Core.Path.{◌≡◌}
use Prim.Native.Nat.{◌*◌}
use Rattle.base_rules.specs.Bytes.{splice}
use Rattle.base_rules.specs.Table.{table}
use Rattle.cut_rules.specs.Cells.{cell_of}
use Rattle.weave.proofs.rows.lay.Given as goal

abbrev pub invariant-loop-o : goal.invariant-loop-o
invariant-loop-o l = l.out ≡ splice l.initial.out 0 (table (cell_of l.held l.f l.s) 0 (l.o * l.f))
