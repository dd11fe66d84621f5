-- `shown_values` meets its contract, place by place. Assumes nothing.
use Rattle.card_rules.proofs.QueryLaws.{eight}
use Rattle.card.proofs.receiving.ShownTells8.figures.Goals as goal

pub returns : goal.returns
returns c =
    let third = c in
    let second = third in
    let first = second in
    eight first.args.self first.seen_values-a.ensures second.seen_values-b.ensures third.seen_values-c.ensures
    c.seen_values-d.ensures
