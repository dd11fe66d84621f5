-- `ar_with` meets its contract, by CF. Assumes nothing.
use Rattle.af_rules.specs.Packet.{ar_with}
use Rattle.af.proofs.wrapping.ar_with.Goals as goal

pub returns-then-cf : goal.returns-then-cf
unfolding ar_with
returns-then-cf c = rw c.if-cf.true

pub returns-else-cf : goal.returns-else-cf
unfolding ar_with
returns-else-cf c = rw c.if-cf.false
