-- `intact` compares the register with the residue. Assumes nothing.
use mathlib.Core.Path.{ap}
use lib.Dec.{eqb}
use Rattle.crc_rules.specs.Crc.{residue}
use Rattle.crc.proofs.intact.Goals as goal

pub returns : goal.returns
returns c = ap (λ k. eqb k residue) c.register.ensures
