-- `bailhammer_fragments` meets its contract: the outcome of crate sender's call, its number and the split. Assumes nothing.
use mathlib.Core.Path.{refl, ap, ◌∙◌}
use mathlib.Core.List.{[]}
use native.Mathlib.Omega.{arith}
use Rattle.cut_rules.specs.declared.Settings.{Settings}
use Rattle.sender_rules.specs.Calls.{fragments_call, all_number}
use Rattle.card_rules.specs.Sending.{settings_of, twos}
use Rattle.card_rules.specs.Told.{told_length}
use Rattle.card_rules.proofs.SendLaws.{fragments_short}
use Rattle.card_rules.proofs.ToldLaws.{sent_as}
use Rattle.card.proofs.sending.bailhammer_fragments.Goals as goal

pub returns-then-told-lt-TOLD_FRAGMENTS : goal.returns-then-told-lt-TOLD_FRAGMENTS
unfolding told_length all_number
returns-then-told-lt-TOLD_FRAGMENTS c =
    let said = c in
    let sent = said in
    let short = sent in
    let set = short in
    let a = set.args in
    fragments_short (settings_of a.fec a.m a.newer a.mtu a.addressed a.source a.dest) a.pseq a.packet.now a.out.now
    a.told.now (omega arith)
    (sent.fragments-none.ensures ∙ ap (λ (x : Settings). fragments_call x a.pseq a.packet.now []) set.settings_of-g.ensures)
    said.tell_answer.ensures

pub returns : goal.returns
unfolding told_length all_number
returns c =
    let said = c in
    let sent = said in
    let fits = sent in
    let set = fits in
    let a = set.args in
    sent_as (twos 4) a.told.now a.out.now (omega arith)
    (sent.fragments-a.ensures ∙ ap (λ (x : Settings). fragments_call x a.pseq a.packet.now a.out.now) set.settings_of-g.ensures)
    said.tell_answer-2.ensures

pub tell_answer-requires : goal.tell_answer-requires
unfolding told_length
tell_answer-requires c = (omega arith, refl)

pub tell_answer-requires-2 : goal.tell_answer-requires-2
unfolding told_length
tell_answer-requires-2 c = (omega arith, refl)
