-- `replies::number` meets its contract: it is one text from the start. Assumes nothing.
use native.Mathlib.Omega.{arith}
use Rattle.text_rules.proofs.Writing.{wrote}
use Rattle.console.proofs.replies.number.Goals as goal

pub returns : goal.returns
returns c = wrote c.args.out.now 0 _ (omega arith) c.labelled.ensures
