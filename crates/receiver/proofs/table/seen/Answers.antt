-- `seen` meets its contract: a record in range has no fifth condition. Assumes nothing.
use native.Mathlib.Omega.{arith}
use Rattle.receiver_rules.proofs.Shows.{shows_free, shows_open, shows_delivered, shows_spoiled}
use Rattle.receiver.proofs.table.seen.Goals as goal

pub returns-in-0 : goal.returns-in-0
returns-in-0 c = shows_free _ c.in-0.is

pub returns-in-1 : goal.returns-in-1
returns-in-1 c = shows_open _ (λ e. omega arith) c.in-1.is

pub returns-in-2 : goal.returns-in-2
returns-in-2 c = shows_delivered _ (λ e. omega arith) c.in-2.is

pub returns-in_default : goal.returns-in_default
returns-in_default c = shows_spoiled _ c.requires (λ e. omega arith) (λ e. omega arith) (λ e. omega arith)
