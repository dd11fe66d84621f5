use mathlib.Core.Path.{sym, ap, ◌∙◌}
use mathlib.Core.Bool.{false}
use Prim.Native.Nat.{◌<◌}
use native.Mathlib.Nat.{zero-add}
use native.Mathlib.Omega.{arith}
use lib.ListN.{length-set, length-replicate, replicate}
use Rattle.base_rules.specs.Bounds.{most_f}
use Rattle.card_rules.specs.Blocks.{is_kept, kept_of}
use Rattle.card_rules.proofs.FlagLaws.{flags_none, flags_more, flags-all}
use Rattle.card.proofs.blocks.kept_of.Goals as goal

pub loop-i-init : goal.loop-i-init
loop-i-init c = (length-replicate most_f false, flags_none (is_kept c.args.bytes.now) (replicate most_f false))

pub loop-i-preserved : goal.loop-i-preserved
loop-i-preserved c =
    let d = c.loop-i in (
      length-set d.k-items d.i c.is_kept.result ∙ d.invariant.0,
      flags_more
          (is_kept c.args.bytes.now)
          d.k-items
          d.i
          c.is_kept.result
          d.invariant.1
          (omega (arith, d.invariant.0, c.loop-i-test.true))
          c.is_kept.ensures,
    )

pub returns : goal.returns
unfolding kept_of
returns c =
    let d = c.loop-i in
    let test = is_kept c.args.bytes.now in
    flags-all test 0 most_f d.k-items d.invariant.0
    (λ q (h : q < most_f). d.invariant.1.at q (omega (arith, c.loop-i-test.false, d.invariant.0)) ∙ ap test (sym (zero-add q)))
