-- `factor` meets its contract. Assumes nothing.
use mathlib.Core.Path.{◌≡◌, sym, ap, ◌∙◌}
use mathlib.Core.Bool.{cond}
use Prim.Native.Nat.{ℕ, ◌-◌, ◌*◌, ◌%◌, ◌≤◌, ◌<◌}
use native.Mathlib.Omega.{arith}
use borrow.Author.Rules.{rules}
use borrow.Author.Tests.{lt-ltb, le-ltb}
use Rattle.code_rules.specs.inner.Kernel.{factor_of}
use Rattle.code_encoder.proofs.rows.factor.Goals as goal

pub returns-then-u-lt16 : goal.returns-then-u-lt16
unfolding factor_of
returns-then-u-lt16 c =
    let u : ℕ = c.args.u in
    let l : u < 16 = search rules in
    let e : u % 256 ≡ u = omega arith in
    e ∙ sym (ap (λ b. cond b u ((u - 16) * 16)) (lt-ltb u 16 l))

pub returns-else-u-lt16 : goal.returns-else-u-lt16
unfolding factor_of
returns-else-u-lt16 c =
    let u : ℕ = c.args.u in
    let l : 16 ≤ u = search rules in
    let e : (u - 16) * 16 % 256 ≡ (u - 16) * 16 = omega arith in
    e ∙ sym (ap (λ b. cond b u ((u - 16) * 16)) (le-ltb u 16 l))
