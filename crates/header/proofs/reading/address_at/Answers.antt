-- `address_at` meets its contract, by the FEC bit. Assumes nothing.
use lib.Dec.{lit≤}
use Rattle.base_rules.proofs.Logic.{told}
use Rattle.header_rules.proofs.Fields.{at_fec, at_plain}
use Rattle.header.proofs.reading.address_at.Goals as goal

pub returns-then-has_fec : goal.returns-then-has_fec
returns-then-has_fec c = (at_fec _ (told c.has_fec.ensures c.if-has_fec.true), lit≤ tt, lit≤ tt)

pub returns-else-has_fec : goal.returns-else-has_fec
returns-else-has_fec c = (at_plain _ (told c.has_fec.ensures c.if-has_fec.false), lit≤ tt, lit≤ tt)
