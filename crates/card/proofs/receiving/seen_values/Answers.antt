-- `seen_values` meets its contract, case by case. Assumes nothing.
use mathlib.Core.Path.{sym, ap}
use Rattle.card_rules.specs.inner.Queried.{seen_told}
use Rattle.card.proofs.receiving.seen_values.Goals as goal

pub returns-in-Free : goal.returns-in-Free
unfolding seen_told
returns-in-Free c = sym (ap seen_told c.in-Free.is)

pub returns-in-Open : goal.returns-in-Open
unfolding seen_told
returns-in-Open c = sym (ap seen_told c.in-Open.is)

pub returns-in-Delivered : goal.returns-in-Delivered
unfolding seen_told
returns-in-Delivered c = sym (ap seen_told c.in-Delivered.is)

pub returns-in-Spoiled : goal.returns-in-Spoiled
unfolding seen_told
returns-in-Spoiled c = sym (ap seen_told c.in-Spoiled.is)
