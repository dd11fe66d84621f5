-- `over_place` meets its contract. Assumes nothing.
use mathlib.Core.Path.{refl, ◌∙◌}
use Prim.Native.Nat.{◌+◌, ◌≤◌}
use native.Mathlib.Omega.{arith}
use native.Mathlib.Nat.{mul-le-mul}
use borrow.Author.Tests.{lt-ltb}
use Rattle.code_rules.specs.Calls.{over_place}
use Rattle.code_rules.proofs.CallCases.{many_chunks}
use Rattle.code_encoder.proofs.calls.over_place.Goals as goal

pub returns-then-c-gt-PLACE : goal.returns-then-c-gt-PLACE
returns-then-c-gt-PLACE c =
    let A = c.args in
    let more = c.if-c-gt-PLACE.true in
    lt-ltb 12288 A.c more ∙ many_chunks A.k A.c more

pub overflow_mul-result : goal.overflow_mul-result
overflow_mul-result c = let h : c.args.k + 48 ≤ 255 = omega arith in omega (arith, mul-le-mul c.if-c-gt-PLACE.false h)

pub returns-else-c-gt-PLACE : goal.returns-else-c-gt-PLACE
unfolding over_place
returns-else-c-gt-PLACE c = refl
