-- `seen` meets its contract: each case of the answer is a case of the definition. Assumes nothing.
use Rattle.std.proofs.Common.{sym, ap, ◌∙◌}
use Rattle.std.specs.Prelude.{Ok}
use Rattle.bandwidth_rules.specs.Seen.{seen_of}
use Rattle.widths.proofs.seen.Goals as goal

pub returns-in-Some : goal.returns-in-Some
unfolding seen_of
returns-in-Some g c = c.with_width.ensures ∙ ap (seen_of _) (sym (c.in-Ok.is ∙ ap Ok c.in-Some.is))

pub returns-in-None : goal.returns-in-None
unfolding seen_of
returns-in-None g c = ap (seen_of _) (sym (c.in-Ok.is ∙ ap Ok c.in-None.is))

pub returns-in_default : goal.returns-in_default
unfolding seen_of
returns-in_default g c = ap (seen_of _) (sym c.in_default.is)
