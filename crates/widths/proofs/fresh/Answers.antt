-- `fresh` meets its contract by computing. Assumes nothing.
use Rattle.std.proofs.Common.{refl}
use lib.Ieee.{of_bits}
use Rattle.bandwidth_rules.specs.Seen.{no_widths}
use Rattle.widths.proofs.fresh.Goals as goal

pub returns : goal.returns
unfolding no_widths of_bits
returns c = refl
