-- `stood` meets its contract: with FEC the figure of the plan's n and f, without FEC 0. Assumes nothing.
use Rattle.endurance_rules.proofs.Calls.{askable, stood-fec, stood-plain}
use Rattle.endurance.proofs.stood.Goals as goal

pub most_lost-requires : goal.most_lost-requires
most_lost-requires c = let a = c.args in askable a.g a.l a.p c.requires c.if-g.true

pub returns-then-g : goal.returns-then-g
returns-then-g c =
    let a = c.args in
    stood-fec a.g a.l a.p c.requires _ c.if-g.true c.most_lost.ensures

pub returns-else-g : goal.returns-else-g
returns-else-g c = let a = c.args in stood-plain a.g a.l a.p c.requires c.if-g.false
