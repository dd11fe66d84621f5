-- `kept_in` meets its contract. Assumes nothing.
use Rattle.places_rules.proofs.Records.{choice_last, choice_other, keeps}
use Rattle.places.proofs.record.kept_in.Goals as goal

pub returns-then-is_last : goal.returns-then-is_last
returns-then-is_last c =
    let last = c.is_last.ensures in
    keeps _ _ (choice_last _ last _ _ c.if-is_last.true) (choice_last _ last _ _ c.if-is_last.true) c.with_fragment-kept.ensures

pub returns-else-is_last : goal.returns-else-is_last
returns-else-is_last c =
    let last = c.is_last.ensures in
    keeps _ _ (choice_other _ last _ _ c.if-is_last.false) (choice_other _ last _ _ c.if-is_last.false) c.with_fragment-kept.ensures
