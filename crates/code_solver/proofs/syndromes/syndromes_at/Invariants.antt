-- `syndromes_at` meets its contract: a coefficient a turn. Assumes nothing.
use mathlib.Core.Path.{◌≡◌}
use lib.ListN.{take}
use Rattle.code_rules.specs.inner.Solving.{syndromes_by}
use Rattle.code_solver.proofs.syndromes.syndromes_at.Given as goal

abbrev pub invariant-loop-c : goal.invariant-loop-c
invariant-loop-c l = l.s ≡ syndromes_by l.k (take l.c-index l.c-items)
