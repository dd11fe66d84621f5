-- `is_kept` meets its contract: the test of the byte read. Assumes nothing.
use mathlib.Core.Path.{ap}
use mathlib.Core.Bool.{not}
use Prim.Native.Nat.{ℕ}
use lib.Dec.{eqb}
use Rattle.card.proofs.blocks.is_kept.Goals as goal

pub returns : goal.returns
returns c = ap (λ (x : ℕ). not (eqb x 0)) c.byte_at.ensures
