-- `quotient` meets its contract: the quotient of two elements but 0 has the difference of their logarithms. Assumes nothing.
use mathlib.Core.Path.{sym, ap, ◌∙◌}
use Rattle.field_rules.specs.Field.{◌⊗◌, inv}
use Rattle.field_rules.proofs.Answers.{quotient_refused, quotient_given}
use Rattle.field_rules.proofs.Powers.{log_div}
use Rattle.field_rules.proofs.Products.{mul_0_l}
use Rattle.field.proofs.quotient.Goals as goal

pub returns-then-b-eq0 : goal.returns-then-b-eq0
returns-then-b-eq0 c = quotient_refused _ _ c.if-b-eq0.true

pub returns-then-a-eq0 : goal.returns-then-a-eq0
returns-then-a-eq0 c =
    let b = c.args.b in
    let e = ap (λ x. x ⊗ inv b) c.if-a-eq0.true ∙ mul_0_l (inv b) in
    quotient_given _ b 0 c.if-b-eq0.false (sym e)

pub returns : goal.returns
returns c =
    let l = c.logs-l.ensures in
    let e = c.raised.ensures ∙ log_div _ _ l.0.small l.1.small l.0.power l.1.power in
    quotient_given _ _ _ c.if-b-eq0.false e
