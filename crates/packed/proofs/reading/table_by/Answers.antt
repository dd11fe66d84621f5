-- `table_by` meets its contract, place by place. Assumes nothing.
use native.Mathlib.Omega.{arith}
use Rattle.packed_rules.proofs.Unpacks.{table_read}
use Rattle.packed.proofs.reading.table_by.Goals as goal

pub place_by-a-requires : goal.place_by-a-requires
place_by-a-requires c = λ z. omega (arith, c.requires z)

pub place_by-b-requires : goal.place_by-b-requires
place_by-b-requires c = λ z. omega (arith, c.requires z)

pub place_by-c-requires : goal.place_by-c-requires
place_by-c-requires c = λ z. omega (arith, c.requires z)

pub place_by-d-requires : goal.place_by-d-requires
place_by-d-requires c = λ z. omega (arith, c.requires z)

pub returns : goal.returns
returns c =
    let A = c.args in
    table_read A.taken _ c.place_by-a.ensures c.place_by-b.ensures
    c.place_by-c.ensures c.place_by-d.ensures c.oldest_by.ensures
