use mathlib.Core.Path.{◌≡◌, refl, sym, ap, ◌∙◌}
use mathlib.Core.Bool.{Bool, false, not}
use Prim.Native.Nat.{ℕ}
use native.Mathlib.Omega.{arith}
use Rattle.std.proofs.Common.{length-take-le}
use Rattle.std.proofs.lemmas.List.{get_or-take}
use Rattle.base_rules.specs.Tests.{bit}
use Rattle.cut_rules.specs.Missing.{count, losses}
use Rattle.weave_rules.specs.Calls.{not_kept}
use Rattle.weave_rules.proofs.PrefixSums.{one_more}
use Rattle.form_rules.specs.Agree.{missing_in}
use Rattle.form.proofs.calls.missing_in.Goals as goal
use Rattle.form.proofs.calls.missing_in.Goals.{then-not-k, else-not-k}

pub loop-k-init : goal.loop-k-init
unfolding count
loop-k-init c = (omega arith, refl)

pub loop-k-preserved : goal.loop-k-preserved
loop-k-preserved c =
    let kept = c.args.p.kept in
    let n = c.args.p.count in
    let i : ℕ = c.loop-k.k-index in
    let so_far = c.loop-k.invariant.1 in
    let long = length-take-le n kept (omega arith) in
    let flag = sym (get_or-take n kept i false (omega (arith, long, c.loop-k-test.true))) in
    elim c.if-not-k.branch [
      | then-not-k w ↦
          (omega arith, omega (arith, so_far, one_more (not_kept kept) i, ap (λ (b : Bool). bit (not b)) (flag ∙ w.if-not-k.true)))
      | else-not-k w ↦
          (omega arith, omega (arith, so_far, one_more (not_kept kept) i, ap (λ (b : Bool). bit (not b)) (flag ∙ w.if-not-k.false)))
    ]

pub returns : goal.returns
unfolding missing_in losses
returns c =
    let kept = c.args.p.kept in
    let long = length-take-le c.args.p.count kept (omega arith) in
    let e : c.loop-k.k-index ≡ c.args.p.count = omega (arith, long, c.loop-k-test.false) in
    c.loop-k.invariant.1 ∙ ap (λ (n : ℕ). count (not_kept kept) 0 n) e
