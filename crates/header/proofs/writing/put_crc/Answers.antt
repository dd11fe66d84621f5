-- `put_crc` meets its contract: the field is that of the first bytes. Assumes nothing.
use native.Mathlib.Omega.{arith}
use Rattle.header_rules.proofs.Lays.{crc_laid}
use Rattle.header.proofs.writing.put_crc.Goals as goal

pub returns : goal.returns
returns c =
    let Before = c in
    let Word = c.word-word in
    let start = Before in
    crc_laid start.args.head.now _ _ start.args.at _ _ Word.ensures c.bytes2.ensures
    (omega arith) c.put.ensures
