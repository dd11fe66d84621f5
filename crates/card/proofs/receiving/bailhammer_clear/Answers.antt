-- `bailhammer_clear` meets its contract: what is no record is refused, then what cannot be cleared; else a fresh record is packed. Assumes nothing.
use lib.ListN.{length}
use Rattle.card_rules.proofs.QueryLaws.{clear_no_record, clear_refused, clear_done}
use Rattle.card.proofs.receiving.bailhammer_clear.Goals as goal

pub returns-in-Err : goal.returns-in-Err
returns-in-Err c =
    let opened = c in
    let a = opened.args in
    rw c.refused.ensures (clear_no_record a.record_bytes.now (length a.lent.now) opened.unpack-unpacked.result.answer opened.unpack-unpacked.result.table
    opened.unpack-unpacked.ensures _ c.in-Err.is)

pub returns-in-Err-answer : goal.returns-in-Err-answer
returns-in-Err-answer c =
    let cleared = c in
    let opened = cleared in
    let a = opened.args in
    rw c.refused-in-Err-answer.ensures (clear_refused a.record_bytes.now (length a.lent.now) opened.unpack-unpacked.result.answer opened.unpack-unpacked.result.table opened.unpack-unpacked.ensures
    cleared.clear-cleared.result.answer cleared.clear-cleared.result.table cleared.clear-cleared.ensures cleared.in-Ok.is _
    c.in-Err-answer.is)

pub returns-in-Ok-answer : goal.returns-in-Ok-answer
returns-in-Ok-answer c =
    let packed = c in
    let done = packed in
    let cleared = done in
    let opened = cleared in
    let a = opened.args in
    clear_done a.record_bytes.now (length a.lent.now) opened.unpack-unpacked.result.answer opened.unpack-unpacked.result.table opened.unpack-unpacked.ensures
    cleared.clear-cleared.result.answer cleared.clear-cleared.result.table cleared.clear-cleared.ensures cleared.in-Ok.is _
    packed.pack.result
    done.in-Ok-answer.is packed.pack.ensures
