-- `write_width` meets its contract: a figure is written as the item of its number, and nothing else is. Assumes nothing.
use mathlib.Core.Path.{sym, ◌∙◌}
use Rattle.base_rules.specs.Refusal.{number, told}
use Rattle.base_rules.specs.Written.{number_of}
use Rattle.bandwidth_rules.proofs.Writing.{width_written, no_figure}
use Rattle.bandwidth.proofs.write_width.Goals as goal

pub returns-in-Some : goal.returns-in-Some
returns-in-Some c =
    width_written _ _ _ _ _ (sym c.in-Some.is ∙ c.whole_of.ensures)
    c.bytes2-value.ensures c.write.ensures

pub returns-in-None : goal.returns-in-None
unfolding number_of told number
returns-in-None c = no_figure _ _ (sym c.in-None.is ∙ c.whole_of.ensures)
