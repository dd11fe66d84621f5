use mathlib.Core.Path.{refl}
use Rattle.form_rules.proofs.Gathering as gathering
use Rattle.form.proofs.coded.gather.Goals as goal

pub loop-j-init : goal.loop-j-init
loop-j-init c = gathering.gathered_none c.args.cells.now c.args.buffer.now c.args.k

pub loop-j-preserved : goal.loop-j-preserved
loop-j-preserved c =
    let L = c.loop-j in
    let a = c.args in
    gathering.gathered_more a.cells.now a.buffer.now a.k a.c c.requires.0 c.requires.1 L.j _ _ L.buffer _ _ c.loop-j-test.true refl refl
    L.invariant c.put.ensures
