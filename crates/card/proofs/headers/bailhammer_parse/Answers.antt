-- `bailhammer_parse` meets its contract: the answer of crate header's call, and what it tells. Assumes nothing.
use native.Mathlib.Omega.{arith}
use mathlib.Core.Path.{refl, ap, ◌∙◌}
use Rattle.std.specs.Prelude.{Option}
use Rattle.cut_rules.specs.declared.Address.{Address}
use Rattle.header_rules.specs.Read.{parsed_of}
use Rattle.card_rules.specs.Told.{told_length}
use Rattle.card_rules.specs.Headers.{header_widths}
use Rattle.card_rules.specs.inner.Parsed.{parsed_told}
use Rattle.card_rules.proofs.HeaderLaws.{parsed_told_lem}
use Rattle.card_rules.proofs.ToldLaws.{told_as}
use Rattle.card.proofs.headers.bailhammer_parse.Goals as goal

pub returns : goal.returns
unfolding parsed_told
returns c =
    let said = c in
    let read = said in
    let own = read in
    let a = own.args in
    told_as header_widths a.told.now
    (ap parsed_told (read.parse.ensures.0 ∙ ap (λ (x : Option Address). parsed_of x a.datagram.now) own.address_of-own.ensures)
    ∙ parsed_told_lem _ a.datagram.now)
    said.tell_answer.ensures

pub tell_answer-requires : goal.tell_answer-requires
unfolding told_length
tell_answer-requires c = (omega arith, refl)
