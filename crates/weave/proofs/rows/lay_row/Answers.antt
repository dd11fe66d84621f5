use mathlib.Core.Path.{refl, sym}
use Prim.Native.Nat.{◌*◌}
use native.Mathlib.Omega.{arith}
use lib.Arith.{digits_lt}
use Rattle.base_rules.proofs.Tables as tables
use Rattle.cut_rules.specs.Cells.{cell_of}
use Rattle.cut_rules.proofs.Interleaving.{cell_at}
use Rattle.weave.proofs.rows.lay_row.Goals as goal

pub loop-r-init : goal.loop-r-init
loop-r-init c = let a = c.args in tables.filled_none (cell_of a.held.now a.f a.s) _ a.out.now _

pub loop-r-preserved : goal.loop-r-preserved
loop-r-preserved c =
    let L = c.loop-r in
    let a = c.args in
    let below = c.loop-r-test.true in
    tables.filled_more (cell_of a.held.now a.f a.s) _ a.out.now (a.o * a.f) L.r L.invariant refl
    (sym (cell_at a.held.now a.f a.s a.o L.r below)) (omega (arith, digits_lt {q = a.o} {m = a.s} {r = L.r} {c = a.f} c.requires.0 below))
