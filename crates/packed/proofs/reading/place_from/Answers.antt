-- `place_from` meets its contract, field by field. Assumes nothing.
use Rattle.packed_rules.specs.Packed.{place_from}
use Rattle.packed.proofs.reading.place_from.Goals as goal

pub returns : goal.returns
unfolding place_from
returns c =
    let rsk = c in
    let condition = rsk in
    rw (
      condition.byte_at.ensures,
      rsk.read2.ensures,
      rsk.read4.ensures,
      rsk.byte_at-2.ensures,
      rsk.byte_at-3.ensures,
      c.byte_at-4.ensures,
      c.read2-2.ensures,
      c.read2-3.ensures,
      c.flags_from.ensures,
    )
