-- `put_fec` meets its contract, by FEC. Assumes nothing.
use native.Mathlib.Omega.{arith}
use Rattle.header_rules.proofs.Lays.{fec_laid, fec_none}
use Rattle.header.proofs.writing.put_fec.Goals as goal

pub returns-then-h : goal.returns-then-h
returns-then-h c =
    let Before = c in
    let start = Before in
    fec_laid start.args.h start.args.head.now start.args.at _ _ c.if-h.true
    (omega arith) c.put.ensures

pub returns : goal.returns
returns c =
    let a = c.args in
    fec_none a.h a.head.now a.at c.if-h.false
