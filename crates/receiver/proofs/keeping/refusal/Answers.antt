-- `refusal` meets its contract: past the fourth place nothing changes. Assumes nothing.
use mathlib.Core.Path.{refl}
use native.Mathlib.Omega.{arith}
use Rattle.receiver_rules.proofs.Forming.{unchanged}
use Rattle.receiver.proofs.keeping.refusal.Goals as goal

pub returns : goal.returns
returns c = (unchanged c.args.t _ (omega arith) refl refl, refl)
