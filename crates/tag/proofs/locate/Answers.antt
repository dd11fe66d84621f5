-- `tag::locate` meets its contract.
use mathlib.Core.Path.{◌≡◌, refl, sym, ap, ◌∙◌}
use borrow.Author.Rules.{rules}
use Rattle.std.specs.Prelude.{Err}
use Rattle.base_rules.specs.Refusal.{fault_in}
use Rattle.tag_rules.proofs.Numbers.{locate_told}
use Rattle.tag_rules.proofs.Searches.{refused-first, refused_second, is_located}
use Rattle.tag.proofs.locate.Goals as goal

pub returns-in_err-check : goal.returns-in_err-check
unfolding fault_in
returns-in_err-check c =
    let e : c.from_residual.result ≡ Err c.in_err-check.field-0.0 = search rules in
    locate_told _ _ _ _ _ (e ∙ refused-first _ _ _ _ _ (sym (ap fault_in c.in_err-check.was) ∙ c.check.ensures))

pub returns-in_err-check-2 : goal.returns-in_err-check-2
unfolding fault_in
returns-in_err-check-2 c =
    let packet = sym c.check.ensures ∙ ap fault_in c.in_ok-check.was in
    let e : c.from_residual-in_err-check-2.result ≡ Err c.in_err-check-2.field-0.0 = search rules in
    locate_told _ _ _ _ _ (e ∙ refused_second _ _ _ _ _ packet (sym (ap fault_in c.in_err-check-2.was) ∙ c.check-2.ensures))

pub returns-in-Some : goal.returns-in-Some
unfolding fault_in
returns-in-Some c =
    let packet = sym c.check.ensures ∙ ap fault_in c.in_ok-check.was in
    let standing = sym c.check-2.ensures ∙ ap fault_in c.in_ok-check-2.was in
    locate_told _ _ _ _ _ (sym (is_located _ _ _ _ _ _ packet standing (sym c.first_in.ensures.0 ∙ c.in-Some.is) refl))

pub returns-in-Some-first_in : goal.returns-in-Some-first_in
unfolding fault_in
returns-in-Some-first_in c =
    let packet = sym c.check.ensures ∙ ap fault_in c.in_ok-check.was in
    let standing = sym c.check-2.ensures ∙ ap fault_in c.in_ok-check-2.was in
    locate_told _ _ _ _ _ (sym (is_located _ _ _ _ _ _ packet standing
    (sym c.first_in.ensures.0 ∙ c.in_default.is) (sym c.first_in-2.ensures.0 ∙ c.in-Some-first_in.is)))

pub returns-in-None : goal.returns-in-None
unfolding fault_in
returns-in-None c =
    let packet = sym c.check.ensures ∙ ap fault_in c.in_ok-check.was in
    let standing = sym c.check-2.ensures ∙ ap fault_in c.in_ok-check-2.was in
    locate_told _ _ _ _ _ (sym (is_located _ _ _ _ _ _ packet standing
    (sym c.first_in.ensures.0 ∙ c.in_default.is) (sym c.first_in-2.ensures.0 ∙ c.in-None.is)))
