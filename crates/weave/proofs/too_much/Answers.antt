-- `too_much` meets its contract: a fragment longer than a place is too much by itself. Assumes nothing.
use mathlib.Core.Path.{refl, ◌∙◌}
use native.Mathlib.Omega.{arith}
use native.Mathlib.Nat.{mul-le-mul}
use borrow.Author.Tests.{lt-ltb}
use Rattle.base_rules.specs.Bounds.{place}
use Rattle.weave_rules.specs.Calls.{too_much}
use Rattle.weave_rules.proofs.CallCases.{f_most, over_place_lem}
use Rattle.weave.proofs.too_much.Goals as goal

pub returns-then-s-gt-PLACE : goal.returns-then-s-gt-PLACE
returns-then-s-gt-PLACE c =
    let a = c.args in
    let h = c.if-s-gt-PLACE.true in
    lt-ltb place a.s h ∙ over_place_lem a.f a.s c.requires h

pub overflow_mul-result : goal.overflow_mul-result
overflow_mul-result c = omega (arith, mul-le-mul (f_most c.args.f c.requires) c.if-s-gt-PLACE.false)

pub returns-else-s-gt-PLACE : goal.returns-else-s-gt-PLACE
unfolding too_much
returns-else-s-gt-PLACE c = refl
