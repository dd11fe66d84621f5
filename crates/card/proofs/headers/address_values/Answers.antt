-- `address_values` meets its contract, case by case. Assumes nothing.
use mathlib.Core.Path.{sym, ap}
use Rattle.card_rules.specs.Headers.{address_told}
use Rattle.card.proofs.headers.address_values.Goals as goal

pub returns-in-None : goal.returns-in-None
unfolding address_told
returns-in-None c = sym (ap address_told c.in-None.is)

pub returns-in-Some : goal.returns-in-Some
unfolding address_told
returns-in-Some c = sym (ap address_told c.in-Some.is)
