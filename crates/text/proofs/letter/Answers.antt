-- `letter` meets its contract: the two kinds of letters. Assumes nothing.
use native.Mathlib.Omega.{arith}
use Rattle.text_rules.proofs.Digits.{letter_low, letter_high}
use Rattle.text.proofs.letter.Goals as goal

pub returns-then-digit-lt10 : goal.returns-then-digit-lt10
returns-then-digit-lt10 c = omega (arith, letter_low c.if-digit-lt10.true)

pub returns-else-digit-lt10 : goal.returns-else-digit-lt10
returns-else-digit-lt10 c = omega (arith, letter_high c.if-digit-lt10.false)
