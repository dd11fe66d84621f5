-- `figures` of what a datagram comes to meets its contract, case by case. Assumes nothing.
use mathlib.Core.Path.{sym, ap, ◌∙◌}
use Rattle.card_rules.specs.inner.Receipt.{received_told}
use Rattle.card.proofs.receiving.ReceivedTells5.figures.Goals as goal

pub returns-in-Kept : goal.returns-in-Kept
unfolding received_told
returns-in-Kept c = c.receipt_values.ensures ∙ sym (ap received_told c.in-Kept.is)

pub returns-in-Delivered : goal.returns-in-Delivered
unfolding received_told
returns-in-Delivered c = c.receipt_values-in-Delivered.ensures ∙ sym (ap received_told c.in-Delivered.is)

pub returns-in-Damaged : goal.returns-in-Damaged
unfolding received_told
returns-in-Damaged c = c.receipt_values-in-Damaged.ensures ∙ sym (ap received_told c.in-Damaged.is)
