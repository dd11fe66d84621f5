-- `lay` meets its contract, by what the AF check answers. Assumes nothing.
use mathlib.Core.Path.{ap, ◌∙◌}
use Rattle.lister_rules.specs.Listing.{refused_line}
use Rattle.text_rules.proofs.Laws.{lays_same}
use Rattle.lister_rules.proofs.Texts.{packet-refused, packet_passes}
use Rattle.lister.proofs.lay.Goals as goal

pub returns-in-Err : goal.returns-in-Err
returns-in-Err c =
    lays_same _ _ (ap refused_line c.from.ensures ∙ packet-refused _ _ c.check.ensures _ c.in-Err.is) c.refused_line.ensures

pub returns-in-Ok : goal.returns-in-Ok
returns-in-Ok c =
    let text = packet_passes _ _ c.check.ensures _ _ c.in-Ok.is
    c.payload.ensures.0 in
    lays_same _ _ text c.list_payload.ensures
