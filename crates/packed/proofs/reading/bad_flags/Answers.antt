use mathlib.Core.Path.{◌≡◌, refl, ap, ◌∙◌}
use Prim.Native.Nat.{ℕ, ◌+◌, ◌-◌}
use native.Mathlib.Omega.{arith}
use lib.ListN.{take, drop}
use lib.Seq.{take_all}
use Rattle.base_rules.specs.Bounds.{most_f}
use Rattle.packed_rules.specs.Packed.{bad_flags}
use Rattle.packed_rules.proofs.FlagLaws.{bad_more}
use Rattle.packed.proofs.reading.bad_flags.Goals as goal

pub loop-b-init : goal.loop-b-init
unfolding bad_flags
loop-b-init c = refl

pub loop-b-preserved : goal.loop-b-preserved
loop-b-preserved c = bad_more _ _ c.loop-b.bits _ c.loop-b.invariant c.loop-b-test.true refl

pub returns : goal.returns
returns c =
    let a = c.args in
    let all : a.i + most_f - a.i ≡ most_f = omega arith in
    c.loop-b.invariant ∙ ap bad_flags (take_all _ _ c.loop-b-test.false) ∙ ap (λ (n : ℕ). bad_flags (take n (drop a.i a.s.now))) all
