-- `columns` meets its contract: a coefficient a turn. Assumes nothing.
use mathlib.Core.Path.{◌≡◌}
use lib.ListN.{take, get_or}
use Rattle.codeword.specs.Code.{horner}
use Rattle.code_rules.specs.inner.Words.{table}
use Rattle.code_rules.specs.inner.Patterns.{Columns}
use Rattle.code_solver.proofs.patterns.columns.Given as goal

abbrev pub invariant-loop-m : goal.invariant-loop-m
invariant-loop-m l = (l.s ≡ table 48 (λ i. horner (get_or l.k i 0) 0 (take l.m l.p))) × Columns l.k l.p l.m l.initial.q l.q l.d
