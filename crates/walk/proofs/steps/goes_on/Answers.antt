-- `walk::steps::goes_on` meets its contract.
use mathlib.Core.Path.{sym, ◌∙◌}
use Rattle.walk_rules.proofs.StepCases.{into, behind, behind_deepest}
use Rattle.walk.proofs.steps.goes_on.Goals as goal
use Rattle.walk.proofs.steps.goes_on.Goals.{else-d-lt-DEEPEST-via-then-d-lt-DEEPEST+else-is_container, else-d-lt-DEEPEST-via-else-d-lt-DEEPEST}

pub returns-then-is_container : goal.returns-then-is_container
returns-then-is_container c =
    let a = c.args in
    into _ a.d a.ends a.i c.if-d-lt-DEEPEST.true (sym c.is_container.ensures ∙ c.if-is_container.true)

pub returns : goal.returns
returns c =
    let a = c.args in
    elim c.else-d-lt-DEEPEST.branch [
      | else-d-lt-DEEPEST-via-then-d-lt-DEEPEST+else-is_container w ↦ behind _ a.d a.ends a.i w.if-d-lt-DEEPEST.true (sym w.is_container.ensures ∙ w.if-is_container.false)
      | else-d-lt-DEEPEST-via-else-d-lt-DEEPEST w ↦ behind_deepest _ a.d a.ends a.i w.if-d-lt-DEEPEST.false
    ]
