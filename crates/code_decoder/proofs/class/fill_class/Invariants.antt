-- `fill_class` meets its contract: a chunk a turn. Assumes nothing.
use Prim.Native.Nat.{◌≤◌, ◌<◌}
use lib.ListN.{get_or}
use Rattle.code_rules.specs.inner.Block.{Later}
use Rattle.code_decoder.proofs.class.fill_class.Given as goal

abbrev pub invariant-loop-j : goal.invariant-loop-j
invariant-loop-j l = (l.from ≤ l.j) × Later l.k l.mask l.initial.block l.initial.ans l.block l.ans × (l.from < l.j → get_or l.ans l.from 0 < 2)
