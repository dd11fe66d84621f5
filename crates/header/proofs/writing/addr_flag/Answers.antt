-- `addr_flag` meets its contract, case by case. Assumes nothing.
use mathlib.Core.Path.{ap, sym}
use lib.Dec.{lit≤}
use Rattle.header_rules.specs.Header.{addr_flag}
use Rattle.header.proofs.writing.addr_flag.Goals as goal

pub returns-in-None : goal.returns-in-None
unfolding addr_flag
returns-in-None c = (sym (ap addr_flag c.in-None.is), lit≤ tt)

pub returns-in-Some : goal.returns-in-Some
unfolding addr_flag
returns-in-Some c = (sym (ap addr_flag c.in-Some.is), lit≤ tt)
