-- `with_bit` meets its contract: an even y has the lowest bit 0, an odd one 1. Assumes nothing.
use mathlib.Core.Path.{◌≡◌, sym, ap, ◌∙◌}
use Prim.Native.Nat.{ℕ, ◌*◌, ◌%◌}
use native.Mathlib.Nat.{zero-mul, one-mul}
use native.Mathlib.Omega.{arith}
use Rattle.field_rules.specs.Field.{◌⊕◌}
use Rattle.field_rules.proofs.Sums.{add_0_r}
use Rattle.field.proofs.with_bit.Goals as goal

pub returns-then-y-eq0 : goal.returns-then-y-eq0
returns-then-y-eq0 c =
    let r : ℕ = c.args.r in
    let x : ℕ = c.args.x in
    sym (ap (λ b. r ⊕ b * x) c.if-y-eq0.true ∙ ap (λ s. r ⊕ s) (zero-mul x) ∙ add_0_r r)

pub returns-else-y-eq0 : goal.returns-else-y-eq0
returns-else-y-eq0 c =
    let r : ℕ = c.args.r in
    let x : ℕ = c.args.x in
    let y : ℕ = c.args.y in
    let odd : y % 2 ≡ 1 = omega arith in
    c.sum.ensures ∙ sym (ap (λ b. r ⊕ b * x) odd ∙ ap (λ s. r ⊕ s) (one-mul x))
