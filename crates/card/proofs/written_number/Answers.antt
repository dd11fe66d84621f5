-- `written_number` meets its contract, case by case. Assumes nothing.
use mathlib.Core.Path.{sym, ap}
use borrow.Author.Rules.{rules}
use Rattle.base_rules.specs.Written.{number_of}
use Rattle.std.specs.Prelude.{Result}
use Rattle.base_rules.specs.Refusal.{told}
use Rattle.base_rules.specs.declared.Refusal.{Refusal}
use Rattle.card_rules.specs.Told.{refusal_in}
use Rattle.card.proofs.written_number.Goals as goal

pub returns-in-Ok : goal.returns-in-Ok
unfolding refusal_in number_of told
returns-in-Ok c = sym (ap (λ (w : Result (Unit {0}) Refusal). refusal_in (number_of w)) c.in-Ok.is)

pub returns-in-Err : goal.returns-in-Err
unfolding refusal_in number_of told
returns-in-Err c = search rules
