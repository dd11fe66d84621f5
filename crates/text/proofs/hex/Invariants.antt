-- `hex` meets its contract: what stands after i bytes is the text of the first i. Assumes nothing.
use lib.ListN.{take}
use Rattle.text_rules.specs.Text.{hex_of}
use Rattle.text_rules.proofs.Laws.{Lays}
use Rattle.text.proofs.hex.Given as goal

abbrev pub invariant-loop-value : goal.invariant-loop-value
invariant-loop-value l = Lays l.initial.out l.at (hex_of (take l.value-index l.raw)) l.to l.out
