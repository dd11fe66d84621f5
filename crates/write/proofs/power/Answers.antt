-- `power` meets its contract: nothing is shifted out of a byte. Assumes nothing.
use mathlib.Core.Path.{◌∙◌}
use native.Mathlib.Nat.{one-mul}
use native.Mathlib.Omega.{arith}
use lib.Dec.{lit<}
use lib.Pow.{shl_exact}
use Rattle.write.proofs.power.Goals as goal

pub returns : goal.returns
returns c = shl_exact {a = 1} 1 c.args.u 8 (lit< tt) (omega arith) ∙ one-mul _
