-- `refused_line` meets its contract. Assumes nothing.
use Rattle.lister_rules.specs.Listing.{refused_line}
use Rattle.lister.proofs.refused_line.Goals as goal

pub returns : goal.returns
unfolding refused_line
returns c = c.number_line.ensures
