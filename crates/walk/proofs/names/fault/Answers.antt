-- `walk::names::fault` meets its contract.
use native.Mathlib.Omega.{arith}
use Rattle.base_rules.specs.Refusal.{number, fault_in}
use Rattle.walk_rules.proofs.ContainerNames.{too_many, cut_short, well_formed}
use Rattle.walk.proofs.names.fault.Goals as goal
use Rattle.walk.proofs.names.fault.Goals.{then-names-via-then-names, then-names-via-else-names+then-names-ne0}

pub returns-then-names : goal.returns-then-names
unfolding fault_in number
returns-then-names c = elim c.then-names.branch [
  | then-names-via-then-names w ↦ too_many _ (omega (arith, w.if-names.true))
  | then-names-via-else-names+then-names-ne0 w ↦ cut_short _ (omega (arith, w.if-names.false)) (λ z. omega (arith, z, w.if-names-ne0.true))
]

pub returns : goal.returns
unfolding fault_in number
returns c = well_formed _ (omega (arith, c.if-names.false)) (omega (arith, c.if-names-ne0.false))
