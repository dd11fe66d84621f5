-- `address_of` meets its contract, case by case. Assumes nothing.
use borrow.Author.Tests.{eq-eqb, ne_eqb}
use Rattle.card_rules.specs.Calls.{address_of}
use Rattle.card.proofs.address_of.Goals as goal

pub returns-then-addressed-eq0 : goal.returns-then-addressed-eq0
unfolding address_of
returns-then-addressed-eq0 c = simp (eq-eqb _ _ c.if-addressed-eq0.true)

pub returns : goal.returns
unfolding address_of
returns c = simp (ne_eqb _ _ c.if-addressed-eq0.false)
