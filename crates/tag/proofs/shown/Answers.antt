-- `tag::shown` meets its contract.
use mathlib.Core.Path.{sym, ap, ◌∙◌}
use native.Mathlib.Omega.{arith}
use Rattle.item_rules.proofs.Starts.{starts_inside}
use Rattle.tag_rules.specs.Find.{shown_by, place_by}
use Rattle.tag_rules.proofs.Inside.{found_in}
use Rattle.tag_rules.proofs.Values.{place_inside}
use Rattle.tag.proofs.shown.Goals as goal

pub returns-in-Ok-Packet : goal.returns-in-Ok-Packet
returns-in-Ok-Packet c =
    let e = (rw c.in-Ok-Packet.field-0-is at c.in-Ok-Packet.ensures).0 in
    let inside = starts_inside _ _ ((found_in _ _ _ _ _).0 (sym e)).starts in
    (c.value.ensures.0 ∙ ap (shown_by c.args.packet.now c.args.standing.now) e, c.value.ensures.1 ∙ sym (place_inside _ _ (omega arith)) ∙ ap (place_by c.args.packet c.args.standing) e)

pub returns-in-Ok-Standing : goal.returns-in-Ok-Standing
returns-in-Ok-Standing c =
    let e = (rw c.in-Ok-Standing.field-0-is at c.in-Ok-Standing.ensures).0 in
    let inside = starts_inside _ _ ((found_in _ _ _ _ _).1 (sym e)).starts in
    (c.value-in-Ok-Standing.ensures.0 ∙ ap (shown_by c.args.packet.now c.args.standing.now) e, c.value-in-Ok-Standing.ensures.1 ∙ sym (place_inside _ _ (omega arith)) ∙ ap (place_by c.args.packet c.args.standing) e)

pub returns-in-Err : goal.returns-in-Err
returns-in-Err c =
    let e = sym c.in-Err.is ∙ c.locate.ensures.0 in
    (ap (shown_by c.args.packet.now c.args.standing.now) e, ap (place_by c.args.packet c.args.standing) e)
