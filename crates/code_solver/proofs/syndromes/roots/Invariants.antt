-- `roots` meets its contract: a power a turn. Assumes nothing.
use mathlib.Core.Path.{◌≡◌}
use lib.ListN.{replicate}
use Rattle.field_rules.specs.Field.{alpha}
use Rattle.code_rules.specs.inner.Kernel.{roots_list}
use Rattle.code_rules.proofs.LoopLaws.{Upto}
use Rattle.code_solver.proofs.syndromes.roots.Given as goal

abbrev pub invariant-loop-power : goal.invariant-loop-power
invariant-loop-power l = (l.x ≡ alpha l.power-index) × Upto roots_list (replicate 48 0) l.power-index l.power-items
