-- The claim of specs/Claims.antt on a filling, by R4 of `code_rules`. Assumes nothing.
use mathlib.Core.Path.{◌≡◌, sym, ap, ◌∙◌}
use Rattle.code_rules.proofs.Proved.{r4}
use Rattle.card_rules.specs.Blocks.{kept_of, filled_number}
use Rattle.card_rules.specs.Claims.{OneFilling}

-- no second answer fits a filling's promise: the block after it and its number are determined
pub one_filling : OneFilling
one_filling kept f s k block after after' r r' one other =
    let same : (one.answer ≡ other.answer) × (after ≡ after') =
    r4.block (kept_of kept) f s k block after after' one.answer other.answer one.left other.left
    in
    (same.1, one.number ∙ ap filled_number same.0 ∙ sym other.number)
