-- `header_values` meets its contract: each figure stands where it is told. Assumes nothing.
use mathlib.Core.Path.{◌∙◌}
use Rattle.card_rules.proofs.HeaderLaws.{eleven}
use Rattle.card.proofs.Flags.{as_bit}
use Rattle.card.proofs.headers.HeaderTells11.figures.Goals as goal

pub returns : goal.returns
returns c =
    let flag = c in
    let long = flag in
    let addressed = long in
    eleven addressed.args.self (flag.from.ensures ∙ as_bit _) addressed.address_values-a.ensures long.header_length.ensures.0
