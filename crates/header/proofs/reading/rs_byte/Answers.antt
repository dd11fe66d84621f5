-- `rs_byte` meets its contract, by the FEC bit. Assumes nothing.
use mathlib.Core.Bool.{Bool, cond}
use mathlib.Core.Path.{◌∙◌, sym, ap}
use lib.ListN.{get_or}
use Rattle.header.proofs.reading.rs_byte.Goals as goal

pub returns-then-fec : goal.returns-then-fec
returns-then-fec c =
    let A = c.args in
    c.byte_at.ensures ∙ ap (λ (b : Bool). cond b (get_or A.s.now A.i 0) 0) (sym c.if-fec.true)
