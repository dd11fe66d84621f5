-- `wrap` meets its contract: each return is the law for its number. Assumes nothing.
use native.Mathlib.Omega.{arith}
use Rattle.base_rules.specs.Refusal.{number, told}
use Rattle.base_rules.specs.Written.{number_of}
use Rattle.af_rules.proofs.Wraps as cases
use Rattle.af.proofs.wrapping.wrap.Goals as goal

pub returns-then-payload-gt-MOST_PAYLOAD : goal.returns-then-payload-gt-MOST_PAYLOAD
unfolding number_of told number
returns-then-payload-gt-MOST_PAYLOAD c =
    let a = c.args in
    cases.wrap_22 a.seq a.cf a.payload.now a.out.now c.if-payload-gt-MOST_PAYLOAD.true

pub returns-then-out-payload : goal.returns-then-out-payload
unfolding number_of told number
returns-then-out-payload c =
    let a = c.args in
    cases.wrap_1 a.seq a.cf a.payload.now a.out.now c.if-payload-gt-MOST_PAYLOAD.false c.if-out-payload.true

pub put_front-requires : goal.put_front-requires
put_front-requires c = (c.if-payload-gt-MOST_PAYLOAD.false, omega arith)

pub returns : goal.returns
unfolding number_of told
returns c =
    let Before = c in
    let Put-front = c.put_front in
    let d = Before in
    let a = d.args in
    let written = cases.packed a.seq a.cf a.payload.now a.out.now _ _ Put-front.ensures c.put_crc.ensures in
    cases.wrap_done a.seq a.cf a.payload.now a.out.now d.if-payload-gt-MOST_PAYLOAD.false _ d.if-out-payload.false written
