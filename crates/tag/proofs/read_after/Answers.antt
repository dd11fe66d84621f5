-- `tag::read_after` meets its contract.
use mathlib.Core.Path.{sym, ◌∙◌}
use native.Mathlib.Omega.{arith}
use Rattle.tag_rules.proofs.Reading.{handed_fits, after_is}
use Rattle.tag.proofs.read_after.Goals as goal

pub overflow_add-result : goal.overflow_add-result
overflow_add-result c =
    let e = rw c.in-Ok-Item.field-0-is at c.in-Ok-Item.ensures in
    omega (arith, handed_fits _ _ _ _ (sym e.0))

pub returns-in-Ok-Item : goal.returns-in-Ok-Item
returns-in-Ok-Item c =
    let e = rw c.in-Ok-Item.field-0-is at c.in-Ok-Item.ensures in
    after_is _ _ _ _ (sym e.0)

pub returns-in-Ok-End : goal.returns-in-Ok-End
returns-in-Ok-End c =
    let e = rw c.in-Ok-End.field-0-is at c.in-Ok-End.ensures in
    after_is _ _ _ _ (sym e.0)

pub returns-in-Err : goal.returns-in-Err
returns-in-Err c = after_is _ _ _ _ (sym c.read_at.ensures.0 ∙ c.in-Err.is)
