-- `pick` meets its contract. Assumes nothing.
use mathlib.Core.Path.{◌≡◌, sym, ap, ◌∙◌}
use Prim.Native.Nat.{ℕ, ◌*◌, ◌/◌, ◌%◌}
use native.Mathlib.Nat.{zero-mul, one-mul}
use borrow.Author.Rules.{rules}
use Rattle.code_lanes.proofs.pick.Goals as goal

pub returns-then-a-bit-eq0 : goal.returns-then-a-bit-eq0
returns-then-a-bit-eq0 c =
    let a : ℕ = c.args.a in
    let d : ℕ = c.args.bit in
    let v : ℕ = c.args.v in
    let e : a / d % 2 ≡ 0 = search rules in
    sym (ap (λ y. y * v) e ∙ zero-mul v)

pub returns-else-a-bit-eq0 : goal.returns-else-a-bit-eq0
returns-else-a-bit-eq0 c =
    let a : ℕ = c.args.a in
    let d : ℕ = c.args.bit in
    let v : ℕ = c.args.v in
    let e : a / d % 2 ≡ 1 = search rules in
    sym (ap (λ y. y * v) e ∙ one-mul v)
