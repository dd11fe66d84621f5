-- `put_figures` is safe: only a place in range is drawn.
use Rattle.base_rules.proofs.Logic.{told}
use Rattle.places_rules.proofs.Ranges.{range_from}
use Rattle.relay.proofs.drawing.put_figures.Goals as goal

pub put_kept-to-requires : goal.put_kept-to-requires
put_kept-to-requires c = (range_from c.args.p (told c.bad_place.ensures c.if-bad_place.false)).count
