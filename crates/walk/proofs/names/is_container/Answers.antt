use mathlib.Core.Path.{sym, ◌∙◌}
use Rattle.walk_rules.proofs.ContainerNames.{left_first, left_here, left_next, left_none}
use Rattle.walk.proofs.names.is_container.Goals as goal

pub loop-j-init : goal.loop-j-init
loop-j-init c = left_first _ _

pub returns-then-read4-name : goal.returns-then-read4-name
returns-then-read4-name c =
    sym (c.loop-j.invariant ∙ left_here _ _ _ _ c.loop-j-test.true c.read4.ensures c.if-read4-name.true)

pub loop-j-preserved : goal.loop-j-preserved
loop-j-preserved c =
    c.loop-j.invariant ∙ left_next _ _ _ _ c.loop-j-test.true c.read4.ensures c.if-read4-name.false

pub returns : goal.returns
returns c = sym (c.loop-j.invariant ∙ left_none _ _ _ c.loop-j-test.false)
