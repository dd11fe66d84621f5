-- `put_front` meets its contract: each field right behind the one before. Assumes nothing.
use native.Mathlib.Omega.{arith}
use Rattle.header_rules.proofs.Lays.{front_laid}
use Rattle.header.proofs.writing.put_front.Goals as goal

pub returns : goal.returns
returns c =
    let last = c in
    let count = last in
    let index = count in
    let number = index in
    let sync = number in
    let start = sync in
    front_laid start.args.h start.args.head.now _ _ _ _ _ _ _ _ _ _ _ _ _ _ _ _ (omega arith) sync.bytes2.ensures
    number.bytes2-2.ensures
    index.bytes3.ensures
    count.bytes3-2.ensures
    last.bytes2-3.ensures
    last.flags.ensures
    sync.put.ensures
    number.put-2.ensures
    index.put-3.ensures
    count.put-4.ensures
    last.put-5.ensures
