-- `header` meets its contract: the ten bytes one by one. Assumes nothing.
use Rattle.af_rules.proofs.Wraps.{laid}
use Rattle.af.proofs.wrapping.header.Goals as goal

pub returns : goal.returns
returns c =
    let A = c.args in
    laid _ _ _ _ A.seq A.len A.cf c.bytes2-s.ensures c.bytes4-l.ensures
    c.bytes2-q.ensures c.ar_with.ensures
