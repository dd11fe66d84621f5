-- `bad_size` meets its contract; the product fits since the count was looked at before. Assumes nothing.
use mathlib.Core.Path.{◌∙◌}
use Prim.Native.Nat.{◌≤◌}
use native.Mathlib.Nat.{mul-le-mul}
use native.Mathlib.Omega.{arith}
use borrow.Author.Tests.{lt-ltb}
use Rattle.weave_rules.proofs.CallCases.{f_most}
use Rattle.header_rules.proofs.Fields.{size_over, size-fec, size-plain}
use Rattle.header.proofs.reading.bad_size.Goals as goal

pub overflow_mul-f : goal.overflow_mul-f
overflow_mul-f c =
    let h = c.args.h in
    let small : h.plen ≤ 65535 = omega arith in
    omega (arith, mul-le-mul (f_most h.count c.requires) small)

pub returns-then-f-s-gt-PLACE : goal.returns-then-f-s-gt-PLACE
returns-then-f-s-gt-PLACE c = lt-ltb _ _ c.if-f-s-gt-PLACE.true ∙ size_over c.args.h c.if-f-s-gt-PLACE.true

pub bad_chunk-requires : goal.bad_chunk-requires
bad_chunk-requires c = c.if-f-s-gt-PLACE.false

pub returns-then-h : goal.returns-then-h
returns-then-h c = size-fec c.args.h c.if-f-s-gt-PLACE.false _ c.if-h.true c.bad_chunk.ensures

pub returns-else-h : goal.returns-else-h
returns-else-h c = c.if-h.false ∙ size-plain c.args.h c.if-f-s-gt-PLACE.false c.if-h.false
