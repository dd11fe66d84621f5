use mathlib.Core.Path.{◌≡◌, refl, ◌∙◌}
use Prim.Native.Nat.{◌+◌}
use native.Mathlib.Omega.{arith}
use lib.ListN.{length, length-set, replicate}
use Rattle.base_rules.specs.Bounds.{most_f}
use Rattle.card_rules.proofs.EndureLaws.{laid_two, laid_flag, laid_all}
use Rattle.card.proofs.Flags.{as_bit}
use Rattle.card.proofs.losses.figures.Goals as goal

pub loop-i-init : goal.loop-i-init
loop-i-init c = (refl, laid_two c.args.most c.args.f c.args.lost (replicate most_f 0))

pub loop-i-preserved : goal.loop-i-preserved
loop-i-preserved c =
    let d = c.loop-i in
    let a = c.args in
    let long : length a.lost ≡ most_f = omega arith in (
      length-set d.told (2 + d.i) c.from.result ∙ d.invariant.0,
      laid_flag a.most a.f a.lost d.told d.i c.from.result d.invariant.1 (omega (arith, d.invariant.0)) (omega (arith, long))
          (c.from.ensures ∙ as_bit _),
    )

pub returns : goal.returns
returns c =
    let d = c.loop-i in
    let a = c.args in
    let long : length a.lost ≡ most_f = omega arith in
    laid_all a.most a.f a.lost d.told d.i d.invariant.1 (omega (arith, d.invariant.0)) (omega (arith, long))
