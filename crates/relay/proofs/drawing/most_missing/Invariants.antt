-- After j turns it is the most of the first j chunks.
use Rattle.std.proofs.Common.{◌≡◌, ◌≤◌}
use Rattle.weave_rules.specs.Calls.{not_kept}
use Rattle.relay.specs.inner.Missed.{most_missing}
use Rattle.relay.proofs.drawing.most_missing.Given as goal

abbrev pub invariant-loop-j : goal.invariant-loop-j
invariant-loop-j l = record { within : l.most ≤ l.n; most : l.most ≡ most_missing (not_kept l.kept) l.f l.n l.j }
