-- `unpack` meets its contract: what is read is by the number that is due. Assumes nothing.
use Rattle.packed_rules.proofs.Unpacks.{taken_size, unpacked}
use Rattle.packed.proofs.reading.unpack.Goals as goal

pub table_by-requires : goal.table_by-requires
table_by-requires c = taken_size _ c.fault_of-answer.result c.fault_of-answer.ensures c.is_ok.ensures.value

pub returns : goal.returns
returns c = unpacked _ c.fault_of-answer.result c.fault_of-answer.ensures c.is_ok.ensures.value _ c.table_by.ensures
