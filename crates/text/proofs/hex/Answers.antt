use lib.ListN.{take}
use Rattle.text_rules.specs.Text.{hex_of}
use Rattle.text_rules.proofs.Laws.{lays_none, lays_same, lays_more}
use Rattle.text_rules.proofs.Digits.{hex_none, hex_next}
use Rattle.text.proofs.hex.Goals as goal

pub loop-value-init : goal.loop-value-init
loop-value-init c =
    let a = c.args in
    lays_same a.out.now a.at hex_none (lays_none a.out.now a.at)

pub loop-value-preserved : goal.loop-value-preserved
loop-value-preserved c =
    let a = c.args in
    let turn = c.loop-value in
    let raw = a.raw.now in
    let i = turn.value-index in
    let more = lays_more a.out.now a.at (hex_of (take i raw)) _ turn.invariant c.byte-to.ensures in
    lays_same a.out.now a.at (hex_next raw i c.loop-value-test.true) more
