-- `read8` meets its contract: four bytes, and the four behind them. Assumes nothing.
use Rattle.base_rules.proofs.Numbers.{number_past}
use Rattle.card_rules.proofs.ItemLaws.{eight_read}
use Rattle.card.proofs.items.read8.Goals as goal

pub returns-then-i-s : goal.returns-then-i-s
returns-then-i-s c =
    let a = c.args in
    eight_read a.s.now a.i c.read4.ensures c.read4-then-i-s.ensures

pub returns-else-i-s : goal.returns-else-i-s
returns-else-i-s c = number_past 8 c.args.s.now c.args.i c.if-i-s.false
