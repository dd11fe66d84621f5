-- `figures` meets its contract: each figure is worked out from the same c, k, L, S and f. Assumes nothing.
use mathlib.Core.Path.{◌≡◌, ap₂, ◌∙◌}
use Prim.Native.Nat.{ℕ, ◌*◌, ◌<◌}
use native.Mathlib.Omega.{arith}
use Rattle.base_rules.specs.Round.{ceil}
use Rattle.base_rules.proofs.Ceil as ceils
use Rattle.cut_rules.specs.Sizes.{f}
use Rattle.cut_rules.proofs.ChunkSizes as chunk
use Rattle.cut_rules.proofs.PlanCases as cases
use Rattle.cut.proofs.RoundedUp.{rounded}
use Rattle.cut.proofs.plans.Cut.figures.Goals as goal

pub overflow_sub-c : goal.overflow_sub-c
overflow_sub-c c =
    let cut = c.args.self in
    let e = ap₂ (λ (x y : ℕ). x * y) c.chunks-c.ensures.0 c.per_chunk-k.ensures.0 in
    omega (arith, e, chunk.filled cut.l (omega (arith, cut.in_bounds.1)))

pub div_ceil-requires : goal.div_ceil-requires
div_ceil-requires c =
    let Total = c.total-total in
    let Room = c.room-room in
    let some = Room.ensures.1 in
    let e = c.div_ceil-f.ensures ∙ rounded Total.result Room.result some in
    omega (arith, e, ceils.some Total.result Room.result some Total.ensures.1)

pub returns : goal.returns
unfolding f
returns c =
    let cut = c.args.self in
    let Total = c.total-total in
    let Room = c.room-room in
    let e = c.div_ceil-f.ensures ∙ rounded Total.result Room.result Room.ensures.1 in
    let f-is : c.div_ceil-f.result ≡ f cut.g cut.l = e ∙ ap₂ ceil Total.ensures.0 Room.ensures.0 in
    let some : 0 < c.div_ceil-f.result = omega (arith, e, ceils.some Total.result Room.result Room.ensures.1 Total.ensures.1) in
    let s-is = c.div_ceil.ensures ∙ rounded Total.result c.div_ceil-f.result some in (
      cases.figured cut.g cut.l _ _ _ c.chunks-c.ensures.0 c.per_chunk-k.ensures.0
          c.with_fec.ensures c.with_fec-2.ensures c.with_fec-3.ensures c.with_fec-4.ensures
          c.header.ensures.0 Room.ensures.0 Total.ensures.0 f-is s-is c.assured.ensures,
      f-is,
    )
