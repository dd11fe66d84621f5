-- `address_bytes` meets its contract, case by case. Assumes nothing.
use mathlib.Core.Path.{ap, sym}
use lib.Dec.{lit≤}
use Rattle.cut_rules.specs.Sizes as size
use Rattle.cut.proofs.plans.address_bytes.Goals as goal

pub returns-in-None : goal.returns-in-None
unfolding size.address_bytes
returns-in-None c = (sym (ap size.address_bytes c.in-None.is), lit≤ tt)

pub returns-in-Some : goal.returns-in-Some
unfolding size.address_bytes
returns-in-Some c = (sym (ap size.address_bytes c.in-Some.is), lit≤ tt)
