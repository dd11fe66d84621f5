-- `most_missing` meets its contract: with a chunk more it is the greater of the most so far and what that chunk misses.
use Rattle.std.proofs.Common.{◌∙◌, arith}
use Rattle.weave_rules.specs.Calls.{not_kept}
use Rattle.relay.proofs.Most.{most_none, most_more}
use Rattle.relay.proofs.drawing.most_missing.Goals as goal

pub loop-j-init : goal.loop-j-init
loop-j-init c =
    let a = c.args in
    record { within = omega arith; most = most_none (not_kept a.kept) a.f a.n }

pub loop-j-preserved : goal.loop-j-preserved
loop-j-preserved c =
    let a = c.args in
    let got = c.missing_of.ensures in
    record {
      within = omega (arith, c.max-most.ensures, got);
      most = c.max-most.ensures ∙ most_more (not_kept a.kept) a.f a.n c.loop-j.j _ _ c.loop-j.invariant.most got.0;
    }
