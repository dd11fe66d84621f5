use mathlib.Core.Path.{sym, ap, ◌∙◌}
use native.Mathlib.Omega.{arith}
use borrow.Author.Rules.{rules}
use lib.Bits.{bit_xor}
use Rattle.base_rules.proofs.ByteLaws.{bytes_from}
use Rattle.crc_rules.proofs.Over.{eight_more, no_more}
use Rattle.crc.proofs.HalfBytes.eight.Goals as goal

pub loop-b-preserved : goal.loop-b-preserved
loop-b-preserved c =
    let l = c.loop-b in
    let p = c.args.p.now in
    let h = bytes_from p (λ i h. c.fits-p i) in
    eight_more c.args.start l.sum l.r l.b c.high.result c.share-sum.result p h c.told-p c.loop-b-test.true (search rules)
    c.high.ensures c.share-sum.ensures l.invariant

pub returns : goal.returns
returns c =
    let l = c.loop-b in
    ap (bit_xor l.sum) (sym (no_more c.args.p.now l.b l.r (omega arith))) ∙ l.invariant
