-- `losses::write_losses` meets its contract: each goes on where the one before stops. Assumes nothing.
use native.Mathlib.Omega.{arith}
use Rattle.text_rules.proofs.Writing.{chain, goes}
use Rattle.console.proofs.losses.write_losses.Goals as goal

pub write_set-requires : goal.write_set-requires
write_set-requires c =
    let said = c in
    let so_far = goes _ said.number-at.ensures said.labelled-to.ensures in
    omega (arith, so_far.within, so_far.same)

pub returns : goal.returns
returns c =
    let said = c in
    chain (goes _ said.number-at.ensures said.labelled-to.ensures) c.write_set.ensures
