use mathlib.Core.Path.{◌≡◌}
use Prim.Native.Nat.{◌+◌, ◌-◌}
use native.Mathlib.Omega.{arith}
use borrow.Author.Rules.{rules}
use Rattle.text_rules.proofs.Putting.{digits_none, digits_more, digits_all, places_left}
use Rattle.text.proofs.digits_of.Goals as goal

pub loop-rest-init : goal.loop-rest-init
loop-rest-init c = (omega arith, omega arith, digits_none c.args.value c.args.digits.now (search rules))

pub overflow_sub-i : goal.overflow_sub-i
overflow_sub-i c = omega (arith, places_left c.loop-rest.i c.loop-rest.rest (omega arith) c.loop-rest.invariant.0)

pub loop-rest-preserved : goal.loop-rest-preserved
loop-rest-preserved c =
    let turn = c.loop-rest in
    let i = turn.i in
    let s = turn.digits in
    let w = turn.invariant in
    let letter = c.letter.result in
    let left = places_left i turn.rest (omega arith) w.0 in
    let back : i - 1 + 1 ≡ i = omega arith in
    let more = digits_more c.args.value turn.rest s i letter (omega arith) w.2 (omega arith)
    c.letter.ensures in
    (rw back left.1, omega arith, rw back more)

pub returns : goal.returns
returns c =
    let end = c.loop-rest in
    let w = end.invariant in (
      w.1,
      digits_all c.args.value end.rest end.digits end.i c.letter-2.result (omega arith)
          w.2 (omega arith) c.letter-2.ensures,
    )
