-- `item::again` meets its contract: each arm says what was found.
use mathlib.Core.Path.{sym, ◌∙◌}
use Rattle.item.proofs.again.Goals as goal

pub returns-in-Some : goal.returns-in-Some
returns-in-Some c =
    let k = c in
    sym (simp (k.if-mark.true, sym k.first_in-f.ensures.0 ∙ k.in-Some.is))

pub returns-in-None : goal.returns-in-None
returns-in-None c = sym (simp (c.if-mark.true, sym c.first_in-f.ensures.0 ∙ c.in-None.is))
