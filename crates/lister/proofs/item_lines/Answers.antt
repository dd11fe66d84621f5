use mathlib.Core.Path.{ap, ◌∙◌}
use Rattle.std.specs.Prelude.{Ok}
use lib.ListN.{length}
use Rattle.text_rules.proofs.Laws.{laid_length}
use Rattle.lister_rules.proofs.Left.{begins, turn, end, never}
use Rattle.lister.proofs.item_lines.Goals as goal

pub loop-handed-init : goal.loop-handed-init
loop-handed-init c = begins _ _ _ _ _ c.requires.0 c.requires.1

pub loop-handed-smaller : goal.loop-handed-smaller
loop-handed-smaller c =
    (turn _ _ _ _ _ _ _ c.loop-handed.invariant _ c.walk_step-walked.ensures.0 _ (c.in-Ok.is ∙ ap Ok c.in-Item.is) _ _
    c.item_line-to.ensures).1

pub loop-handed-preserved : goal.loop-handed-preserved
loop-handed-preserved c =
    (turn _ _ _ _ _ _ _ c.loop-handed.invariant _ c.walk_step-walked.ensures.0 _ (c.in-Ok.is ∙ ap Ok c.in-Item.is) _ _
    c.item_line-to.ensures).0

pub returns-in-End : goal.returns-in-End
returns-in-End c =
    end _ _ _ _ _ _ _ c.loop-handed.invariant _ c.walk_step-walked.ensures.0 _ (c.in-Ok.is ∙ ap Ok c.in-End.is) _ _
    c.number_line.ensures

pub shape_of-out-in-End : goal.shape_of-out-in-End
shape_of-out-in-End c = ap length (returns-in-End c).1 ∙ laid_length _ _ _

pub shape_of-out-in_default : goal.shape_of-out-in_default
shape_of-out-in_default c =
    absurd (never _ _ _ _ _ _ _ c.loop-handed.invariant _ c.walk_step-walked.ensures.0 _ c.in_default.is)

pub returns-in_default : goal.returns-in_default
returns-in_default c =
    absurd (never _ _ _ _ _ _ _ c.loop-handed.invariant _ c.walk_step-walked.ensures.0 _ c.in_default.is)
