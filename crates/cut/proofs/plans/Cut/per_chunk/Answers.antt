-- `per_chunk` meets its contract: it is k, and k is at most 207. Assumes nothing.
use mathlib.Core.Path.{◌≡◌, ap, ◌∙◌}
use native.Mathlib.Omega.{arith}
use Rattle.base_rules.specs.Round.{ceil}
use Rattle.cut_rules.specs.Sizes as size
use Rattle.cut_rules.proofs.ChunkSizes as chunk
use Rattle.cut.proofs.RoundedUp.{rounded}
use Rattle.cut.proofs.plans.Cut.per_chunk.Goals as goal

pub returns : goal.returns
unfolding size.k
returns c = let cut = c.args.self in
    let e : c.div_ceil.result ≡ size.k cut.l = c.div_ceil.ensures ∙ rounded cut.l _ c.chunks.ensures.1 ∙ ap (ceil cut.l) c.chunks.ensures.0 in
    (e, omega (arith, e, chunk.k_most cut.l (omega (arith, cut.in_bounds.1))))
