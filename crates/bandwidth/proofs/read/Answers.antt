-- `read` meets its contract: the item is where the name was found, and its value is shown by the packet that holds it. Assumes nothing.
use mathlib.Core.Path.{◌≡◌, sym, ap, ◌∙◌}
use borrow.Author.Rules.{rules}
use Rattle.std.specs.Prelude.{Ok, Err}
use Rattle.bandwidth_rules.specs.Read.{held_in, said_by}
use Rattle.bandwidth_rules.proofs.Reading.{read_by}
use Rattle.bandwidth.proofs.read.Goals as goal

pub returns-in_err-i : goal.returns-in_err-i
unfolding said_by
returns-in_err-i c =
    let e : c.from_residual.result ≡ Err c.in_err-i.field-0.0 = search rules in
    read_by _ _ _ _ _ (sym c.in_err-i.was ∙ c.locate.ensures.0) e

pub returns-in-Packet : goal.returns-in-Packet
unfolding said_by
returns-in-Packet c =
    let l = sym (c.in_ok-i.was ∙ ap Ok c.in-Packet.is) ∙ c.locate.ensures.0 in
    read_by _ _ _ _ _ l (c.held_in.ensures ∙ ap (held_in _) c.value.ensures.0)

pub returns-in-Standing : goal.returns-in-Standing
unfolding said_by
returns-in-Standing c =
    let l = sym (c.in_ok-i.was ∙ ap Ok c.in-Standing.is) ∙ c.locate.ensures.0 in
    read_by _ _ _ _ _ l (c.held_in-in-Standing.ensures ∙ ap (held_in _) c.value-in-Standing.ensures.0)
