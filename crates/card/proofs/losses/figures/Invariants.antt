-- `figures` meets its contract: behind the losses and f the first i flags stand as numbers after i turns. Assumes nothing.
use mathlib.Core.Path.{◌≡◌}
use Prim.Native.Nat.{◌+◌}
use lib.ListN.{length}
use Rattle.base_rules.specs.Bounds.{most_f}
use Rattle.card_rules.proofs.EndureLaws.{Laid}
use Rattle.card.proofs.losses.figures.Given as goal

abbrev pub invariant-loop-i : goal.invariant-loop-i
invariant-loop-i l = (length l.told ≡ most_f + 2) × Laid l.fn.most l.fn.f l.b-items l.told (2 + l.i)
