-- `rule_of` meets its contract, case by case. Assumes nothing.
use borrow.Author.Tests.{eq-eqb, ne_eqb}
use Rattle.card_rules.specs.Sending.{rule_of}
use Rattle.card.proofs.sending.rule_of.Goals as goal

pub returns-then-newer-eq0 : goal.returns-then-newer-eq0
unfolding rule_of
returns-then-newer-eq0 c = simp (eq-eqb _ _ c.if-newer-eq0.true)

pub returns : goal.returns
unfolding rule_of
returns c = simp (ne_eqb _ _ c.if-newer-eq0.false)
