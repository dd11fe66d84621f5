-- `word` is the register, inverted. Assumes nothing.
use mathlib.Core.Path.{ap}
use Prim.Native.Nat.{◌-◌}
use Rattle.crc_rules.specs.Crc.{ones, word_of}
use Rattle.crc.proofs.word.Goals as goal

pub returns : goal.returns
unfolding word_of
returns c = ap (λ k. ones - k) c.register.ensures
