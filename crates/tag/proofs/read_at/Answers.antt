-- `tag::read_at` meets its contract.
use mathlib.Core.Path.{◌≡◌, ap, ◌∙◌}
use borrow.Author.Rules.{rules}
use borrow.Author.Tests.{ne_eqb}
use Rattle.base_rules.specs.Refusal.{numbered}
use Rattle.tag_rules.specs.Calls.{read_of}
use Rattle.tag_rules.proofs.Numbers.{read_told}
use Rattle.tag.proofs.read_at.Goals as goal

pub returns-then-refusal-ne0 : goal.returns-then-refusal-ne0
unfolding read_of
returns-then-refusal-ne0 c = read_told _ _ _ _ (simp (ne_eqb _ 0 c.if-refusal-ne0.true))

pub returns : goal.returns
unfolding read_of
returns c =
    let e : c.map_err.result ≡ numbered c.step_in.result = search rules in
    read_told _ _ _ _ (simp c.if-refusal-ne0.false (e ∙ ap numbered c.step_in.ensures.0))
