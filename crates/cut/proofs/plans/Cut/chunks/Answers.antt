-- `chunks` meets its contract: it is c, and c is in its bounds. Assumes nothing.
use mathlib.Core.Path.{◌∙◌}
use native.Mathlib.Omega.{arith}
use Rattle.base_rules.specs.Bounds.{most_k}
use Rattle.cut_rules.specs.Sizes as size
use Rattle.cut_rules.proofs.ChunkSizes as chunk
use Rattle.cut.proofs.RoundedUp.{rounded}
use Rattle.cut.proofs.plans.Cut.chunks.Goals as goal

pub returns : goal.returns
unfolding size.c
returns c = let cut = c.args.self in
    let e = c.div_ceil.ensures ∙ rounded cut.l most_k (omega arith) in (
      e,
      omega (arith, e, chunk.c_some cut.l (omega (arith, cut.in_bounds.1))),
      omega (arith, e, chunk.c_few cut.l (omega (arith, cut.in_bounds.1))),
    )
