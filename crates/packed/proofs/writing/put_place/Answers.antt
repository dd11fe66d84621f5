-- `put_place` meets its contract: the figures, and behind them the flags. Assumes nothing.
use mathlib.Core.Path.{◌≡◌}
use native.Mathlib.Omega.{arith}
use lib.ListN.{length}
use Rattle.base_rules.specs.Bounds.{most_f}
use Rattle.packed_rules.proofs.Lays.{place_laid}
use Rattle.packed.proofs.writing.put_place.Goals as goal

pub returns : goal.returns
returns c =
    let a = c.args in
    let p = c.place_at-p.result in
    let long : length p.kept ≡ most_f = omega arith in
    place_laid a.t a.i p a.out.now _ _ _ _ a.at _ _ c.place_at-p.ensures c.requires long
    c.figures.ensures
    c.flags.ensures
    c.put.ensures
    c.put-2.ensures
