-- `room` meets its contract: it is S, where m is 0 and where the share or the MTU is the smaller. Assumes nothing.
use mathlib.Core.Path.{◌≡◌, ap₂}
use Prim.Native.Nat.{ℕ, ◌*◌, ◌/◌}
use native.Mathlib.Omega.{arith}
use Rattle.base_rules.specs.Bounds.{parity}
use Rattle.cut_rules.specs.Sizes.{S}
use Rattle.cut_rules.proofs.PlanCases as cases
use Rattle.cut.proofs.plans.Cut.room.Goals as goal

pub overflow_sub-most : goal.overflow_sub-most
overflow_sub-most c = let cut = c.args.self in omega (arith, (cases.fitted cut.g cut.in_bounds.0).room)

pub returns-then-self-eq0 : goal.returns-then-self-eq0
returns-then-self-eq0 c =
    let cut = c.args.self in
    let ok = cases.fitted cut.g cut.in_bounds.0 in
    let e = cases.S-none cut.g cut.l c.if-self-eq0.true in
    (omega (arith, e), omega (arith, ok.room), omega (arith, ok.mtu_most))

pub nonzero_div-share : goal.nonzero_div-share
nonzero_div-share c =
    let cut = c.args.self in
    omega (arith, c.divisor.ensures, cases.divisor_some cut.g (cases.fitted cut.g cut.in_bounds.0) c.if-self-eq0.false)

pub returns : goal.returns
returns c =
    let cut = c.args.self in
    let g = cut.g in
    let ok = cases.fitted g cut.in_bounds.0 in
    let share = ap₂ (λ (x y : ℕ). parity * x / y) c.chunks.ensures.0 c.divisor.ensures in
    let e : c.min.result ≡ S g cut.l = omega (arith, share, cases.S-both g cut.l c.if-self-eq0.false) in
    (e, omega (arith, e, cases.S-some g cut.l ok cut.in_bounds.1), omega (arith, e, cases.S-most g cut.l, ok.mtu_most))
