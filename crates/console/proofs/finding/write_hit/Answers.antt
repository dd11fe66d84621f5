-- `finding::write_hit` meets its contract: each text goes on where the one before stops. Assumes nothing.
use native.Mathlib.Omega.{arith}
use Rattle.text_rules.proofs.Writing.{chain, goes}
use Rattle.console.proofs.finding.write_hit.Goals as goal

pub value-requires : goal.value-requires
value-requires c =
    let Where = c.write_where-to in
    let w = goes _ Where.ensures c.decimal-to.ensures in
    omega (arith, w.within, w.same)

pub returns : goal.returns
returns c =
    let Where = c.write_where-to in
    chain (goes _ Where.ensures c.decimal-to.ensures) c.value.ensures
