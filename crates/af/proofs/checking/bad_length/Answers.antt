-- `bad_length` meets its contract: LEN is the number that was read. Assumes nothing.
use mathlib.Core.Path.{ap, ◌∙◌}
use mathlib.Core.Bool.{not}
use borrow.Author.Tests.{ne_eqb}
use Rattle.af_rules.proofs.Checks.{length_other, length_over}
use Rattle.af.proofs.checking.bad_length.Goals as goal

pub returns-then-packet-read4 : goal.returns-then-packet-read4
returns-then-packet-read4 c =
    ap not (ne_eqb _ _ c.if-packet-read4.true) ∙ length_other c.args.packet.now c.read4.result c.read4.ensures c.if-packet-read4.true

pub returns-else-packet-read4 : goal.returns-else-packet-read4
returns-else-packet-read4 c = length_over c.args.packet.now c.read4.result c.read4.ensures c.if-packet-read4.false
