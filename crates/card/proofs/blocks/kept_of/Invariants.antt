-- `kept_of` meets its contract: after i turns the first i values stand in the array. Assumes nothing.
use mathlib.Core.Path.{◌≡◌}
use lib.ListN.{length}
use Rattle.base_rules.specs.Bounds.{most_f}
use Rattle.card_rules.specs.Blocks.{is_kept}
use Rattle.card_rules.proofs.FlagLaws.{Flags}
use Rattle.card.proofs.blocks.kept_of.Given as goal

abbrev pub invariant-loop-i : goal.invariant-loop-i
invariant-loop-i l = (length l.k-items ≡ most_f) × Flags (is_kept l.bytes) l.k-items l.i
