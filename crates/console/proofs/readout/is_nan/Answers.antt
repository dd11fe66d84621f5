-- `readout::is_nan` meets its contract: the two tests are those of the definition. Assumes nothing.
use mathlib.Core.Path.{sym}
use borrow.Author.Tests.{eq-eqb, ne_eqb}
use lib.Ieee.{nan_bits}
use Rattle.console.proofs.readout.is_nan.Goals as goal

pub returns-then-pattern-eq255 : goal.returns-then-pattern-eq255
unfolding nan_bits
returns-then-pattern-eq255 c = sym (simp (eq-eqb _ _ c.if-pattern-eq255.true))

pub returns-else-pattern-eq255 : goal.returns-else-pattern-eq255
unfolding nan_bits
returns-else-pattern-eq255 c = sym (simp (ne_eqb _ _ c.if-pattern-eq255.false))
