-- `crc_for` meets its contract, by CF. Assumes nothing.
use Rattle.af_rules.specs.Packet.{crc_for}
use Rattle.af.proofs.crc_for.Goals as goal

pub returns-then-cf : goal.returns-then-cf
unfolding crc_for
returns-then-cf c = rw c.if-cf.true c.word.ensures

pub returns-else-cf : goal.returns-else-cf
unfolding crc_for
returns-else-cf c = rw c.if-cf.false
