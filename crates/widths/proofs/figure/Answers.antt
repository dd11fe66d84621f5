-- `figure` meets its contract by computing. Assumes nothing.
use Rattle.std.proofs.Common.{refl}
use lib.Ieee.{div, of_int, of_bits}
use Rattle.bandwidth_rules.specs.Figure.{figure_of}
use Rattle.widths.proofs.figure.Goals as goal

pub returns : goal.returns
unfolding div figure_of of_int of_bits
returns c = refl
