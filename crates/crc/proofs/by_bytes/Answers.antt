use mathlib.Core.Path.{sym, ap, ◌∙◌}
use Prim.Native.Nat.{◌+◌}
use native.Mathlib.Omega.{arith}
use lib.ListN.{drop}
use Rattle.crc_rules.specs.Crc.{register_of}
use Rattle.crc_rules.proofs.Over.{one_more, no_more}
use Rattle.crc.proofs.by_bytes.Goals as goal

pub loop-b-preserved : goal.loop-b-preserved
loop-b-preserved c =
    let l = c.loop-b in
    let s = c.args.bytes.now in
    let e = ap (λ r. register_of r (drop (l.b-index + 1) s)) c.fed-r.ensures in
    e ∙ one_more s l.b-index l.r c.loop-b-test.true ∙ l.invariant

pub returns : goal.returns
returns c =
    let l = c.loop-b in
    sym (no_more c.args.bytes.now l.b-index l.r (omega arith)) ∙ l.invariant
