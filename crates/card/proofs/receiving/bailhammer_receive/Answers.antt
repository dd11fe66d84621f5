-- `bailhammer_receive` meets its contract. Assumes nothing.
use mathlib.Core.Path.{◌≡◌, refl}
use Prim.Native.Nat.{◌<◌}
use native.Mathlib.Omega.{arith}
use lib.ListN.{length}
use Rattle.packed_rules.specs.Claims.{TypedTable}
use Rattle.places_rules.specs.Places.{four, place_at}
use Rattle.card_rules.specs.Calls.{address_of}
use Rattle.card_rules.specs.Told.{told_length}
use Rattle.card_rules.proofs.ReceiveLaws.{receive_refused, receive_short, received_there, typed_place}
use borrow.Author.Rules.{rules}
use Rattle.card.proofs.receiving.bailhammer_receive.Goals as goal

pub returns-then-told-lt-TOLD_RECEIVE : goal.returns-then-told-lt-TOLD_RECEIVE
unfolding told_length
returns-then-told-lt-TOLD_RECEIVE c =
    let asked = c in
    let short = asked in
    let a = short.args in
    receive_short (address_of a.addressed a.source a.dest) a.datagram.now _ _ _ (omega (arith, short.if-told-lt-TOLD_RECEIVE.true))
    asked.bailhammer_query.ensures refl

pub returns-in-Err : goal.returns-in-Err
returns-in-Err c =
    let opened = c in
    let a = opened.args in
    receive_refused (address_of a.addressed a.source a.dest) a.datagram.now _ _ _ opened.unpack-unpacked.result.answer
    opened.unpack-unpacked.result.table
    opened.unpack-unpacked.ensures _ c.in-Err.is c.refused.ensures refl

pub returns-in-Ok : goal.returns-in-Ok
unfolding place_at told_length
returns-in-Ok c =
    let said = c in
    let packed = said in
    let got = packed in
    let addressed = got in
    let told = addressed in
    let opened = told in
    let fits = opened in
    let start = fits in
    let a = start.args in
    let t = got.receive-reply.result.table in
    let ok = got.receive-reply.type_inv.1.1.0.1.1 in
    let size : length t.places ≡ four = omega arith in
    let typed : TypedTable t = record {
      places = size;
      each = λ i (b : i < four). typed_place t.places _ ok.0.1.1 i (omega arith);
      oldest = omega (arith, ok.1.0);
    } in
    received_there (address_of a.addressed a.source a.dest) a.datagram.now _ _ said.tell_receipt.result
    opened.unpack-unpacked.result.answer
    opened.unpack-unpacked.result.table opened.unpack-unpacked.ensures addressed.address_of-own.result packed.pack.result t got.receive-reply.result.answer
    told.in-Ok.is addressed.address_of-own.ensures got.receive-reply.ensures typed packed.pack.ensures
    (omega (arith, fits.if-told-lt-TOLD_RECEIVE.false)) said.tell_receipt.ensures

pub tell_receipt-requires : goal.tell_receipt-requires
unfolding told_length
tell_receipt-requires c = search rules
