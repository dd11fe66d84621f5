-- `bad_place_at` meets its contract, test by test. Assumes nothing.
use mathlib.Core.Path.{◌∙◌}
use native.Mathlib.Omega.{arith}
use borrow.Author.Tests.{lt-ltb}
use Rattle.packed_rules.proofs.FlagLaws.{fec_bad, fec_good}
use Rattle.packed.proofs.reading.bad_place_at.Goals as goal

pub returns-then-s-i-gt1 : goal.returns-then-s-i-gt1
returns-then-s-i-gt1 c =
    let a = c.args in lt-ltb _ _ (omega (arith, c.if-s-i-gt1.true)) ∙ fec_bad a.s.now a.i (omega (arith, c.if-s-i-gt1.true))

pub returns-else-s-i-gt1 : goal.returns-else-s-i-gt1
returns-else-s-i-gt1 c =
    let a = c.args in fec_good a.s.now a.i (omega (arith, c.if-s-i-gt1.false)) c.bad_flags.ensures
