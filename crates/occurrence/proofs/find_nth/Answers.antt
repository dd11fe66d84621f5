-- `occurrence::find_nth` meets its contract: an occurrence lies in the packet, and is never one of a standing packet.
use mathlib.Core.Path.{sym, ap, ◌∙◌}
use native.Mathlib.Omega.{arith}
use Rattle.item_rules.proofs.Starts.{starts_inside}
use Rattle.tag_rules.specs.Find.{shown_by, place_by}
use Rattle.tag_rules.proofs.Inside.{nth_in}
use Rattle.tag_rules.proofs.Values.{place_inside}
use Rattle.occurrence.proofs.find_nth.Goals as goal

pub returns-in-Ok-Packet : goal.returns-in-Ok-Packet
returns-in-Ok-Packet c =
    let e = (rw c.in-Ok-Packet.field-0-is at c.in-Ok-Packet.ensures).0 in
    let inside = starts_inside _ _ ((nth_in _ _ _ _ _).0 (sym e)).starts in
    (c.value.ensures.0 ∙ ap (shown_by c.args.packet.now c.args.packet.now) e, c.value.ensures.1 ∙ sym (place_inside _ _ (omega arith)) ∙ ap (place_by c.args.packet c.args.packet) e)

pub returns-in-Ok-Standing : goal.returns-in-Ok-Standing
returns-in-Ok-Standing c = absurd ((nth_in _ _ _ _ _).1 (sym (rw c.in-Ok-Standing.field-0-is at c.in-Ok-Standing.ensures).0))

pub returns-in-Err : goal.returns-in-Err
returns-in-Err c =
    let e = sym c.in-Err.is ∙ c.locate_nth.ensures.0 in
    (ap (shown_by c.args.packet.now c.args.packet.now) e, ap (place_by c.args.packet c.args.packet) e)
