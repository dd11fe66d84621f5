-- `address_of` meets its contract, by the Addr bit. Assumes nothing.
use Rattle.base_rules.proofs.Logic.{told}
use Rattle.header_rules.proofs.Fields.{address_there, address_none}
use Rattle.header.proofs.reading.address_of.Goals as goal

pub returns-then-has_address : goal.returns-then-has_address
returns-then-has_address c =
    let Address-at = c.address_at-at in
    address_there _ Address-at.result _ _ (told c.has_address.ensures
    c.if-has_address.true) Address-at.ensures.0 c.read2.ensures c.read2-then-has_address.ensures

pub returns-else-has_address : goal.returns-else-has_address
returns-else-has_address c = address_none _ (told c.has_address.ensures c.if-has_address.false)
