-- `receiving::write_delivered` meets its contract: no more bytes are shown than the buffer has, and each part goes on where the one before
-- stops. Assumes nothing.
use native.Mathlib.Omega.{arith}
use Rattle.text_rules.proofs.Writing.{chain, goes}
use Rattle.console.proofs.receiving.write_delivered.Goals as goal

pub write_displaced-at-requires : goal.write_displaced-at-requires
write_displaced-at-requires c =
    let Number = c.number-at in
    let w = goes _ Number.ensures c.labelled-at.ensures in omega (arith, w.within, w.same)

pub returns : goal.returns
returns c =
    let Number = c.number-at in
    let Labelled = c.labelled-at in
    let Write-displaced = c.write_displaced-at in
    chain (chain (goes _ Number.ensures Labelled.ensures) Write-displaced.ensures) c.value.ensures
