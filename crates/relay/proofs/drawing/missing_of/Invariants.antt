-- After t turns the cells gone among the chunk's first t are counted.
use Rattle.std.proofs.Common.{◌≡◌, ◌*◌, ◌≤◌}
use Rattle.cut_rules.specs.Missing.{count, gone}
use Rattle.weave_rules.specs.Calls.{not_kept}
use Rattle.relay.proofs.drawing.missing_of.Given as goal

abbrev pub invariant-loop-t : goal.invariant-loop-t
invariant-loop-t l = record {
  within : l.gone ≤ l.t;
  counted : l.gone ≡ count (gone (not_kept l.kept) l.f) (l.j * l.n) l.t;
}
