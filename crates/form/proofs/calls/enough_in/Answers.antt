-- `enough_in` meets its contract: with FEC as it is told, without it by what is missing. Assumes nothing.
use Rattle.places_rules.proofs.Ranges.{range_from}
use Rattle.form_rules.proofs.Checks.{enough-plain}
use Rattle.form.proofs.calls.enough_in.Goals as goal

pub missing_in-requires : goal.missing_in-requires
missing_in-requires c = (range_from c.args.p c.requires).count

pub returns : goal.returns
returns c = enough-plain c.args.p c.missing_in.result c.if-p.false c.missing_in.ensures
