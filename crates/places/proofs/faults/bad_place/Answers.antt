-- `bad_place` meets its contract. Assumes nothing.
use mathlib.Core.Path.{◌≡◌, ◌∙◌}
use mathlib.Core.Bool.{◌||◌}
use borrow.Author.Tests.{lt-ltb, le-ltb}
use lib.Dec.{ltb}
use Rattle.base_rules.proofs.Logic.{hit, pass}
use Rattle.places_rules.specs.Places.{spoiled}
use Rattle.places_rules.specs.Faults.{bad_figures, bad_code, bad_place}
use Rattle.places.proofs.Chains.{of_3}
use Rattle.places.proofs.faults.bad_place.Goals.{then-p-gt-SPOILED, else-p-gt-SPOILED}
use Rattle.places.proofs.faults.bad_place.Goals as goal

pub returns-then-bad_figures : goal.returns-then-bad_figures
unfolding bad_place
returns-then-bad_figures c =
    let p = c.args.p in
    let first : c.if-p-gt-SPOILED.value ≡ (ltb spoiled p.condition || bad_figures p) = elim c.if-p-gt-SPOILED.branch [
      | then-p-gt-SPOILED w ↦ w.value-is ∙ (lt-ltb _ _ w.if-p-gt-SPOILED.true ∙ hit _ (lt-ltb _ _ w.if-p-gt-SPOILED.true))
      | else-p-gt-SPOILED w ↦ pass (le-ltb _ _ w.if-p-gt-SPOILED.false) (w.value-is ∙ w.bad_figures.ensures)
    ] in
    c.if-bad_figures.true ∙ (hit (bad_code p) c.if-bad_figures.true ∙ of_3 _ _ (bad_code p) first)

pub returns-else-bad_figures : goal.returns-else-bad_figures
unfolding bad_place
returns-else-bad_figures c =
    let p = c.args.p in
    let first : c.if-p-gt-SPOILED.value ≡ (ltb spoiled p.condition || bad_figures p) = elim c.if-p-gt-SPOILED.branch [
      | then-p-gt-SPOILED w ↦ w.value-is ∙ (lt-ltb _ _ w.if-p-gt-SPOILED.true ∙ hit _ (lt-ltb _ _ w.if-p-gt-SPOILED.true))
      | else-p-gt-SPOILED w ↦ pass (le-ltb _ _ w.if-p-gt-SPOILED.false) (w.value-is ∙ w.bad_figures.ensures)
    ] in
    pass c.if-bad_figures.false c.bad_code.ensures ∙ of_3 _ _ (bad_code p) first
