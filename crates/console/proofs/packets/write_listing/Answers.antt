-- `packets::write_listing` meets its contract: what was listed is within the buffer. Assumes nothing.
use Rattle.lister_rules.proofs.Written.{listed_within}
use Rattle.console.proofs.Parts.{front}
use Rattle.console.proofs.packets.write_listing.Goals as goal

pub slice_bounds-listing-end : goal.slice_bounds-listing-end
slice_bounds-listing-end c =
    let listed = c.list in
    listed_within _ _ _ _ _ listed.ensures c.in-Ok.is

pub slice_bounds-write_line-end : goal.slice_bounds-write_line-end
slice_bounds-write_line-end c = front _ _ (listed_within _ _ _ _ _ c.list.ensures c.in-Ok.is)
