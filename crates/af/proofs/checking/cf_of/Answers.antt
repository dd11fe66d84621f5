-- `cf_of` meets its contract: the top bit of AR. Assumes nothing.
use mathlib.Core.Path.{ap}
use Prim.Native.Nat.{ℕ, ◌/◌}
use lib.Dec.{eqb}
use Rattle.af.proofs.checking.cf_of.Goals as goal

pub returns : goal.returns
returns c = ap (λ (k : ℕ). eqb (k / 128) 1) c.ar_of.ensures
