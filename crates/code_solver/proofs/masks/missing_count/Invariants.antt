-- `missing_count` meets its contract: a place of the mask a turn. Assumes nothing.
use mathlib.Core.Path.{◌≡◌}
use Prim.Native.Nat.{◌+◌, ◌≤◌}
use lib.ListN.{drop}
use Rattle.codeword.specs.Erasure.{marks, count}
use Rattle.code_solver.proofs.masks.missing_count.Given as goal

abbrev pub invariant-loop-m : goal.invariant-loop-m
invariant-loop-m l = (l.n ≤ l.m-index) × (l.n + count (marks (drop l.m-index l.mask)) ≡ count (marks l.mask))
