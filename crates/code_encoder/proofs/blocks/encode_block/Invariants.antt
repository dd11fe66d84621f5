-- `encode_block` meets its contract: a chunk a turn. Assumes nothing.
use Rattle.code_rules.specs.inner.Block.{Encoded, EncSized}
use Rattle.code_encoder.proofs.blocks.encode_block.Given as goal

abbrev pub invariant-loop-j : goal.invariant-loop-j
invariant-loop-j l = EncSized l.k l.c l.src l.out × Encoded l.k l.j l.src l.out
