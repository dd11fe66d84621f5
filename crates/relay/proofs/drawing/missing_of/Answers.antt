-- `missing_of` meets its contract: a cell more is counted where its fragment is not kept.
use Rattle.std.proofs.Common.{◌≡◌, ◌∙◌, refl, ap, arith, ℕ, ◌+◌, ◌*◌, Bool, not}
use Rattle.base_rules.specs.Tests.{bit}
use Rattle.cut_rules.specs.Missing.{count, gone, missing}
use Rattle.cut_rules.proofs.LossCounts.{count_add}
use Rattle.weave_rules.specs.Calls.{not_kept}
use Rattle.relay.proofs.drawing.missing_of.Goals as goal
use Rattle.relay.proofs.drawing.missing_of.Goals.{then-not-kept-from, else-not-kept-from}

-- one number more is counted if it passes the test
one_more : (p : ℕ → Bool) (a t : ℕ) → count p a (t + 1) ≡ count p a t + bit (p (a + t))
unfolding count
one_more p a t = omega (arith, count_add p a t 1)

pub loop-t-init : goal.loop-t-init
unfolding count
loop-t-init c = record { within = omega arith; counted = refl }

pub loop-t-preserved : goal.loop-t-preserved
loop-t-preserved c =
    let a = c.args in
    let so_far = c.loop-t.invariant.counted in
    let next = one_more (gone (not_kept a.kept) a.f) (a.j * a.n) c.loop-t.t in
    elim c.if-not-kept-from.branch [
      | then-not-kept-from w ↦ record {
        within = omega (arith, w.gone-is);
        counted = omega (arith, w.gone-is, so_far, next, ap (λ (b : Bool). bit (not b)) w.if-not-kept-from.true);
      }
      | else-not-kept-from w ↦ record {
        within = omega (arith, w.gone-is);
        counted = omega (arith, w.gone-is, so_far, next, ap (λ (b : Bool). bit (not b)) w.if-not-kept-from.false);
      }
    ]

pub returns : goal.returns
unfolding missing
returns c =
    let a = c.args in
    let e : c.loop-t.t ≡ a.n = omega arith in
    (c.loop-t.invariant.counted ∙ ap (λ (n : ℕ). count (gone (not_kept a.kept) a.f) (a.j * a.n) n) e, omega arith)
