-- `walk::names::is_container` meets its contract. The invariant: the name is among all names if it is among those from number j on.
use Prim.Native.Nat.{◌-◌}
use mathlib.Core.Path.{◌≡◌}
use Rattle.base_rules.specs.Tests.{among}
use Rattle.walk_rules.specs.Names.{names_of}
use Rattle.walk_rules.proofs.ContainerNames.{is_left}
use Rattle.walk.proofs.names.is_container.Given as goal

abbrev pub invariant-loop-j : goal.invariant-loop-j
invariant-loop-j l = among l.name (names_of l.names) ≡ is_left l.names l.name l.j

abbrev pub decreases-loop-j : goal.decreases-loop-j
decreases-loop-j l = l.n - l.j
