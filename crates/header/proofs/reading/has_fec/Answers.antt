-- `has_fec` meets its contract: the top bit of the flags. Assumes nothing.
use mathlib.Core.Path.{ap}
use lib.Dec.{leb}
use Rattle.header_rules.specs.Header.{fec_bit}
use Rattle.header_rules.specs.Read.{flags_at, has_fec}
use Rattle.header.proofs.reading.has_fec.Goals as goal

pub returns : goal.returns
unfolding has_fec flags_at
returns c = ap (leb fec_bit) c.read2.ensures
