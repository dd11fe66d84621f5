-- `walk::whole::check` meets its contract.
use native.Mathlib.Omega.{arith}
use mathlib.Core.Path.{◌≡◌, refl, sym, ap, ◌∙◌}
use borrow.Author.Rules.{rules}
use Rattle.std.specs.Prelude.{Err}
use Rattle.base_rules.specs.Refusal.{fault_in}
use Rattle.base_rules.proofs.Answers.{number-positive}
use Rattle.walk_rules.proofs.Refusals.{list_refused, list_taken}
use Rattle.walk.proofs.whole.check.Goals as goal

pub returns-in_err-fault : goal.returns-in_err-fault
unfolding fault_in
returns-in_err-fault c =
    let e : c.from_residual.result ≡ Err c.in_err-fault.field-0.0 = search rules in
    let some = number-positive c.in_err-fault.field-0.0 in
    ap fault_in e ∙ list_refused _ _ _ _ (sym (ap fault_in c.in_err-fault.was) ∙ c.fault.ensures) (λ z. omega (arith, some, z))

pub returns : goal.returns
unfolding fault_in
returns c = list_taken _ _ _ _ (sym (ap fault_in c.in_ok-fault.was) ∙ c.fault.ensures) _ refl c.walk_packet.ensures
