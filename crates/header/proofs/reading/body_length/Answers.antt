-- `body_length` meets its contract, by the Addr bit. Assumes nothing.
use native.Mathlib.Omega.{arith}
use Rattle.base_rules.proofs.Logic.{told}
use Rattle.header_rules.proofs.Fields.{body_there, body_plain}
use Rattle.header.proofs.reading.body_length.Goals as goal

pub returns-then-has_address : goal.returns-then-has_address
returns-then-has_address c =
    (body_there _ _ (told c.has_address.ensures c.if-has_address.true) c.address_at-at.ensures.0, omega arith, omega arith)

pub returns-else-has_address : goal.returns-else-has_address
returns-else-has_address c =
    (body_plain _ _ (told c.has_address.ensures c.if-has_address.false) c.address_at-at.ensures.0, omega arith, omega arith)
