-- `register` is `register_of` either way: the table is right at every entry. Assumes nothing.
use Rattle.crc_rules.specs.inner.Shifts.{shift, shift8}
use Rattle.crc_rules.specs.inner.Halves.{rounds}
use Rattle.crc_rules.proofs.Halves.{halves}
use Rattle.crc.proofs.register.Goals as goal

pub invariant_of-halves : goal.invariant_of-halves
unfolding rounds shift8 shift
invariant_of-halves c = record { right = halves _ tt }
