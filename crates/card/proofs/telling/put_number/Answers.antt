use mathlib.Core.Path.{refl, ◌∙◌}
use Prim.Native.Nat.{◌≤◌}
use native.Mathlib.Omega.{arith}
use lib.ListN.{length, length-set}
use Rattle.card_rules.proofs.TellLaws.{byte_put, bytes_put}
use Rattle.card.proofs.telling.put_number.Goals as goal

pub loop-i-init : goal.loop-i-init
loop-i-init c = (refl, refl)

pub loop-i-preserved : goal.loop-i-preserved
loop-i-preserved c =
    let turn = c.loop-i in
    let inside : turn.i ≤ length turn.d = omega (arith, c.requires, turn.invariant.0) in (
      length-set turn.d _ _ ∙ turn.invariant.0,
      byte_put turn.d c.args.from turn.i turn.rest (omega arith) inside ∙ turn.invariant.1,
    )

pub returns : goal.returns
returns c =
    let turn = c.loop-i in
    bytes_put turn.d c.args.from turn.i turn.rest (omega arith) ∙ turn.invariant.1
