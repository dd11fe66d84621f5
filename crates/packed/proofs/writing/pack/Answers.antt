-- `pack` meets its contract: each place right behind the one before. Assumes nothing.
use Rattle.packed_rules.proofs.Lays.{no_room, table_laid}
use Rattle.packed.proofs.writing.pack.Goals as goal

pub returns-then-out-lt-RECORD : goal.returns-then-out-lt-RECORD
returns-then-out-lt-RECORD c = no_room c.args.t c.args.out.now c.if-out-lt-RECORD.true

pub returns : goal.returns
returns c =
    let oldest = c in
    let fourth = oldest in
    let third = fourth in
    let second = third in
    let first = second in
    let roomy = first in
    let a = roomy.args in
    table_laid a.t a.out.now _ _ _ _ _ _ roomy.if-out-lt-RECORD.false first.put_place.ensures second.put_place-2.ensures
    third.put_place-3.ensures
    fourth.put_place-4.ensures
    oldest.put.ensures
