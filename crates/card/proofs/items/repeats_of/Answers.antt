-- `repeats_of` meets its contract, case by case. Assumes nothing.
use borrow.Author.Tests.{eq-eqb, ne_eqb}
use Rattle.card_rules.specs.Items.{repeats_of}
use Rattle.card.proofs.items.repeats_of.Goals as goal

pub returns-then-repeats-eq0 : goal.returns-then-repeats-eq0
unfolding repeats_of
returns-then-repeats-eq0 c = simp (eq-eqb _ _ c.if-repeats-eq0.true)

pub returns-else-repeats-eq0 : goal.returns-else-repeats-eq0
unfolding repeats_of
returns-else-repeats-eq0 c = simp (ne_eqb _ _ c.if-repeats-eq0.false)
