-- `before_last` meets its contract: a place in range holds the last fragment behind the others. Assumes nothing.
use mathlib.Core.Path.{◌≡◌, refl}
use Prim.Native.Nat.{◌-◌}
use native.Mathlib.Omega.{arith}
use Rattle.form_rules.proofs.Joining.{front_none, front_fits}
use Rattle.form.proofs.plain.before_last.Goals as goal

pub returns-then-count-eq0 : goal.returns-then-count-eq0
returns-then-count-eq0 c =
    let p = c.args.p in
    let e : p.count - 1 ≡ 0 = omega (arith, c.if-count-eq0.true) in
    front_none p c.requires e

pub overflow_mul-result : goal.overflow_mul-result
overflow_mul-result c =
    omega (arith, front_fits c.args.p c.requires)

pub returns : goal.returns
returns c =
    (refl, front_fits c.args.p c.requires)
