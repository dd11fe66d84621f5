-- `flags` meets its contract, by FEC. Assumes nothing.
use Rattle.header_rules.proofs.Lays.{flags-fec, flags-plain}
use Rattle.header.proofs.writing.flags.Goals as goal

pub returns-then-h : goal.returns-then-h
returns-then-h c = flags-fec c.args.h _ c.addr_flag.ensures.0 c.if-h.true

pub returns-else-h : goal.returns-else-h
returns-else-h c = flags-plain c.args.h _ c.addr_flag.ensures.0 c.if-h.false
