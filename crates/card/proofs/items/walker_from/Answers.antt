-- `walker_from` meets its contract, number by number. Assumes nothing.
use Rattle.card_rules.proofs.ItemLaws.{walker_read}
use Rattle.card.proofs.items.walker_from.Goals as goal

pub returns : goal.returns
returns c =
    let last = c in
    let fourth = last in
    let third = fourth in
    let second = third in
    let first = second in
    walker_read first.args.s.now c.read8-6.ensures c.read8-7.ensures first.read8.ensures
    second.read8-2.ensures
    third.read8-3.ensures
    fourth.read8-4.ensures
    last.read8-5.ensures
