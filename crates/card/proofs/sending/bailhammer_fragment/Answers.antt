-- `bailhammer_fragment` meets its contract: the outcome of crate sender's call, its number and the length. Assumes nothing.
use mathlib.Core.Path.{refl, ap, ◌∙◌}
use mathlib.Core.List.{[]}
use native.Mathlib.Omega.{arith}
use Rattle.cut_rules.specs.declared.Settings.{Settings}
use Rattle.sender_rules.specs.Calls.{fragment_call, sent_number}
use Rattle.card_rules.specs.Sending.{settings_of, twos}
use Rattle.card_rules.specs.Told.{told_length}
use Rattle.card_rules.proofs.SendLaws.{fragment_short}
use Rattle.card_rules.proofs.ToldLaws.{sent_as}
use Rattle.card.proofs.sending.bailhammer_fragment.Goals as goal

pub returns-then-told-lt-TOLD_FRAGMENT : goal.returns-then-told-lt-TOLD_FRAGMENT
unfolding told_length sent_number
returns-then-told-lt-TOLD_FRAGMENT c =
    let said = c in
    let sent = said in
    let short = sent in
    let set = short in
    let a = set.args in
    fragment_short (settings_of a.fec a.m a.newer a.mtu a.addressed a.source a.dest) a.pseq a.packet.now a.out.now a.told.now
    a.index (omega arith)
    (sent.fragment-none.ensures ∙ ap (λ (x : Settings). fragment_call x a.pseq a.packet.now a.index []) set.settings_of-g.ensures)
    said.tell_answer.ensures

pub returns : goal.returns
unfolding told_length sent_number
returns c =
    let said = c in
    let sent = said in
    let fits = sent in
    let set = fits in
    let a = set.args in
    sent_as (twos 1) a.told.now a.out.now (omega arith)
    (sent.fragment-a.ensures ∙ ap (λ (x : Settings). fragment_call x a.pseq a.packet.now a.index a.out.now) set.settings_of-g.ensures)
    said.tell_answer-2.ensures

pub tell_answer-requires : goal.tell_answer-requires
unfolding told_length
tell_answer-requires c = (omega arith, refl)

pub tell_answer-requires-2 : goal.tell_answer-requires-2
unfolding told_length
tell_answer-requires-2 c = (omega arith, refl)
