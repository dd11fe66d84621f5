-- `header_length` meets its contract, with FEC and without. Assumes nothing.
use native.Mathlib.Omega.{arith}
use Rattle.cut.proofs.plans.header_length.Goals as goal

pub returns-then-fec : goal.returns-then-fec
returns-then-fec c = rw c.if-fec.true (omega arith, omega arith)

pub returns-else-fec : goal.returns-else-fec
returns-else-fec c = rw c.if-fec.false (omega arith, omega arith)
