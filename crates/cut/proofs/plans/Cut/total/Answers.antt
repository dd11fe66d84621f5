-- `total` meets its contract, with FEC and without. Assumes nothing.
use mathlib.Core.Path.{◌≡◌, ap₂, ◌∙◌, sym}
use Prim.Native.Nat.{ℕ, ◌+◌, ◌*◌}
use native.Mathlib.Omega.{arith}
use Rattle.base_rules.specs.Bounds.{parity}
use Rattle.cut_rules.specs.Sizes as size
use Rattle.cut_rules.proofs.PlanCases as cases
use Rattle.cut.proofs.plans.Cut.total.Goals as goal

pub returns-then-self : goal.returns-then-self
unfolding size.n
returns-then-self c =
    let cut = c.args.self in
    let P = cut.in_bounds in
    let e : c.chunks.result * (c.per_chunk.result + parity) ≡ size.L cut.g cut.l =
    ap₂ (λ (x y : ℕ). x * (y + parity)) c.chunks.ensures.0 c.per_chunk.ensures.0 ∙ sym (cases.L-fec cut.g cut.l c.if-self.true) in
    (e, omega (arith, e, cases.L-some cut.g cut.l P.1), omega (arith, e, cases.L-most cut.g cut.l P.1 P.2))

pub returns-else-self : goal.returns-else-self
returns-else-self c =
    let cut = c.args.self in
    let P = cut.in_bounds in
    (sym (cases.L-plain cut.g cut.l c.if-self.false), omega (arith, P.1), omega (arith, P.2))
