-- `shifted` is `shift`: the test is the definition's. Assumes nothing.
use mathlib.Core.Path.{sym}
use Rattle.crc_rules.proofs.Linear.{shift_low, shift_high}
use Rattle.crc.proofs.shifted.Goals as goal

pub returns-then-r-lt32768 : goal.returns-then-r-lt32768
returns-then-r-lt32768 c = sym (shift_low _ c.if-r-lt32768.true)

pub returns-else-r-lt32768 : goal.returns-else-r-lt32768
returns-else-r-lt32768 c = sym (shift_high _ c.if-r-lt32768.false)
