-- `put_address` meets its contract, by the address. Assumes nothing.
use native.Mathlib.Omega.{arith}
use Rattle.header_rules.proofs.Lays.{address_absent, address_laid}
use Rattle.header.proofs.writing.put_address.Goals as goal

pub returns-in-None : goal.returns-in-None
returns-in-None c =
    let a = c.args in
    address_absent a.a a.head.now a.at c.in-None.is

pub returns-in-Some : goal.returns-in-Some
returns-in-Some c =
    let a = c.args in
    let arm = c.in-Some in
    address_laid a.a a.head.now a.at arm.pair _ _ _ _ _ _ arm.is c.bytes2.ensures
    c.bytes2-in-Some.ensures (omega arith)
    c.put.ensures
    c.put-in-Some.ensures
