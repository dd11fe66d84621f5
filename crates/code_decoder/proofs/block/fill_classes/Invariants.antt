-- `fill_classes` meets its contract: a class a turn. Assumes nothing.
use Rattle.code_rules.specs.inner.Block.{Later, AllDone}
use Rattle.code_decoder.proofs.block.fill_classes.Given as goal

abbrev pub invariant-loop-i : goal.invariant-loop-i
invariant-loop-i l = Later l.k l.mask l.initial.block l.initial.ans l.block l.ans × AllDone l.ans l.i
