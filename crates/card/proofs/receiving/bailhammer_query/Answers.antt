-- `bailhammer_query` meets its contract: what is no record is refused, and else the query tells. Assumes nothing.
use native.Mathlib.Omega.{arith}
use mathlib.Core.Path.{refl}
use lib.ListN.{length}
use Rattle.card_rules.specs.inner.Queried.{queried_in}
use Rattle.card_rules.specs.Told.{told_length}
use Rattle.card_rules.proofs.QueryLaws.{query_refused, query_done}
use Rattle.card.proofs.receiving.bailhammer_query.Goals as goal

pub returns-in-Err : goal.returns-in-Err
returns-in-Err c =
    let opened = c in
    let a = opened.args in
    rw c.refused.ensures (query_refused a.record_bytes.now (length a.lent.now) a.told.now opened.unpack-unpacked.result.answer opened.unpack-unpacked.result.table
    opened.unpack-unpacked.ensures _ c.in-Err.is)

pub returns-in-Ok : goal.returns-in-Ok
unfolding queried_in
returns-in-Ok c =
    let said = c in
    let asked = said in
    let opened = asked in
    let a = opened.args in
    query_done a.record_bytes.now (length a.lent.now) a.told.now opened.unpack-unpacked.result.answer opened.unpack-unpacked.result.table
    opened.unpack-unpacked.ensures asked.query-shown.result asked.in-Ok.is asked.query-shown.ensures said.tell_answer.ensures

pub tell_answer-requires : goal.tell_answer-requires
unfolding told_length
tell_answer-requires c = (omega arith, refl)
