use mathlib.Core.Path.{sym, ◌∙◌}
use native.Mathlib.Omega.{arith}
use Rattle.code_rules.specs.inner.Register.{byte_by}
use Rattle.code_rules.proofs.LoopLaws.{upto_start, upto_more, upto_end}
use Rattle.code_rules.proofs.TableLaws.{byte_by_at, length-byte_by}
use Rattle.code_encoder.proofs.register.byte_in.Goals as goal

pub loop-j-init : goal.loop-j-init
loop-j-init c = upto_start _ _

pub loop-j-preserved : goal.loop-j-preserved
loop-j-preserved c =
    let L = c.loop-j in
    let A = c.args in
    let B = byte_by_at A.t.now A.n A.x A.q.now L.j (omega arith) in
    let U = L.invariant.left L.j (omega arith) in
    upto_more (byte_by A.t.now A.n A.x A.q.now) A.q.now L.j L.q c.sum-in-loop-j.result L.invariant (omega arith) (cc (B, U))

pub returns : goal.returns
returns c =
    let L = c.loop-j in
    let A = c.args in
    upto_end _ A.q.now L.j L.q L.invariant (omega arith) (length-byte_by A.t.now A.n A.x A.q.now ∙ sym c.requires.1)
